-- Held slots, seen as what a slot map says of each page
use Rattle.std.specs.Prelude.{◌≡◌, ◌⊎◌, ℕ, ◌+◌, ◌<◌, ◌≤◌, ◌==◌, nat_lt, if◌then◌else◌, List, [], ◌∷◌}
use Rattle.std.specs.Prelude.{Some, None}
use Rattle.slot_lock.specs.declared.plan.Change.{Change}
use Rattle.slot_lock.specs.Slots.{Slots}
use Rattle.slot_lock.specs.Changes.{changed}
use Rattle.live_levels.specs.Slots.{SlotView, content_at}
use Rattle.live_tree.specs.Guards.{no_slot}
use Rattle.live_tree.specs.Held.{HeldView}

-- the slot that has the page, among slots that lie side by side from left to right
abbrev pub slot_at : List SlotView → ℕ → SlotView
slot_at [] p = no_slot
slot_at (s ∷ ss) p = if nat_lt p (s.first + s.count) then s else slot_at ss p

abbrev pub shown : List SlotView → Slots
shown ss = record {
  info = λ p. content_at (slot_at ss p) p;
  owner = λ p. (slot_at ss p).owner;
  edge = λ p. (slot_at ss p).first == p;
}

-- each page has what it had
abbrev pub KeepsPages : HeldView → HeldView → Type 0
KeepsPages h k = (p : ℕ) → (shown k.slots).info p ≡ (shown h.slots).info p

-- each held page has what the change makes of it
abbrev pub ChangesPages : Change → HeldView → HeldView → Type 0
ChangesPages change h k = (p : ℕ) → h.first ≤ p → p < h.end
    → (shown k.slots).info p ≡ (changed (shown h.slots) change).info p

-- a map has the held pages as they are, with the core as their owner, and else nothing is mapped or
-- held
pub record Lends (core : ℕ) (h : HeldView) (s : Slots) : Type 0 where
  pub info : (p : ℕ) → h.first ≤ p → p < h.end → s.info p ≡ (shown h.slots).info p
  pub owner : (p : ℕ) → h.first ≤ p → p < h.end → s.owner p ≡ Some core
  pub unmapped : (p : ℕ) → (p < h.first) ⊎ (h.end ≤ p) → s.info p ≡ None
  pub free : (p : ℕ) → (p < h.first) ⊎ (h.end ≤ p) → s.owner p ≡ None
