-- Slots that lie side by side, and their histories
use Rattle.std.specs.Prelude.{◌≡◌, ℕ, ◌+◌, ◌≤◌, false, List, [], ◌∷◌, ◌++◌, All}
use Rattle.live_levels.specs.declared.act.SlotChange.{SlotChange}
use Rattle.live_levels.specs.declared.close.SlotHistory.{SlotHistory}
use Rattle.live_levels.specs.Slots.{SlotView}

-- the slots lie side by side, from the page `first` up to `end`
abbrev pub AreSlots : ℕ → ℕ → List SlotView → Type 0
AreSlots first end [] = first ≡ end
AreSlots first end (s ∷ ss) = (s.first ≡ first) × (1 ≤ s.count) × AreSlots (s.first + s.count) end ss

-- none of the slots is divided
abbrev pub AreUndivided : List SlotView → Type 0
AreUndivided = All (λ s. s.divided ≡ false)

-- the list grew by slots from the page `first` up to `end`, none of which is divided
pub record Grew (first end : ℕ) (old new : List SlotView) : Type 0 where
  pub more : List SlotView
  pub are : new ≡ old ++ more
  pub chain : AreSlots first end more
  pub whole : AreUndivided more

-- a slot's pages, and the changes that led to what they have
pub record Past : Type 0 where
  pub first : ℕ
  pub count : ℕ
  pub changes : List SlotChange

abbrev pub history_of : SlotView → Past
history_of s = record { first = s.first; count = s.count; changes = s.changes }

module _ {A : Type 0} where
  abbrev pub past_of : SlotHistory A → Past
  past_of h = record { first = h.first; count = h.count; changes = h.changes.items }

  -- the histories lie side by side, from the page `first` up to `end`
  abbrev pub Chain : ℕ → ℕ → List (SlotHistory A) → Type 0
  Chain first end [] = first ≡ end
  Chain first end (s ∷ ss) = (s.first ≡ first) × (1 ≤ s.count) × Chain (s.first + s.count) end ss
