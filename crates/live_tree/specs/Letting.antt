-- Slots that are let go one after another
use Rattle.std.specs.Prelude.{◌≡◌, ℕ, zero, suc, List, [], ◌∷◌, Option, Some, None}
use Rattle.live_levels.specs.Nexts.{Noted}
use Rattle.live_levels.specs.Slots.{SlotView}

-- the locked slots of which nothing is noted yet, and the locked slot that was noted
pub record LettingView : Type 0 where
  pub slots : List SlotView
  pub noted : Option SlotView

abbrev pub letting_view : List SlotView → Option SlotView → LettingView
letting_view slots noted = record { slots = slots; noted = noted }

-- the leftmost slot, which no core is to lock first any more
abbrev pub freed_first : List SlotView → Option SlotView
freed_first [] = None
freed_first (s ∷ ss) = Some (record s { owner = None })

-- so many steps were noted, one after another
abbrev pub StepsOften : {S : Type 0} → (S → ℕ → S → Type 0) → ℕ → S → S → Type 0
StepsOften stepped zero before now = now ≡ before
StepsOften {S} stepped (suc n) before now = (between : S) × StepsOften stepped n before between × Noted stepped between now
