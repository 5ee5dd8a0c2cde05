-- Calls on disjoint pages
use Rattle.std.specs.Prelude.{◌≡◌, ℕ, true}
use Rattle.machine_model.specs.declared.event.Blocker.TheVariants as WaitsFor
use Rattle.machine_model.specs.declared.event.Event.TheVariants.{Go}
use Rattle.machine_model.specs.declared.event.Outcome.{Outcome}
use Rattle.machine_model.specs.declared.event.Outcome.TheVariants.{Wait}
use Rattle.machine_model.specs.Holding.{holds, range_in, some_has}
use Rattle.machine_model.specs.World.{World}
use Rattle.machine_model.specs.Step.{Step}
use Rattle.machine_model.specs.Sound.{IsReached}

-- the footprints of the calls of cores c and d have no page in common
abbrev pub AreApart : World → ℕ → ℕ → Type 0
AreApart w c d = (p : ℕ) → some_has (range_in (w.calls.phase c)) p ≡ true
    → some_has (range_in (w.calls.phase d)) p ≡ true → ⊥

-- No page is held by two calls, and a call doesn't wait for a slot of another whose footprint is
-- apart from its own.
pub record KeepApart (w : World) : Type 0 where
  pub held : (c d p : ℕ) → holds (w.calls.phase c) p ≡ true → holds (w.calls.phase d) p ≡ true → c ≡ d
  pub waits : (c d : ℕ) (outcome : Outcome) (v : World) → AreApart w c d → Step w (Go c) outcome v
      → outcome ≡ Wait (WaitsFor.Slot d) → ⊥

abbrev pub AllCallsKeepApart : Type 0
AllCallsKeepApart = (w : World) → IsReached w → KeepApart w
