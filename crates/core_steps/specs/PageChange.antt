-- A change of one page that is a slot of its own and that nobody holds
use Rattle.std.specs.Prelude.{◌≡◌, ℕ, ◌+◌, ◌≤◌, false}
use Rattle.vm_base.specs.Cores.{members}
use Rattle.vm_base.specs.Functions.{put}
use Rattle.slot_lock.specs.declared.plan.Change.{Change}
use Rattle.slot_lock.specs.declared.plan.Goal.TheVariants as To
use Rattle.slot_lock.specs.declared.slot_map.FreePage.{FreePage}
use Rattle.slot_lock.specs.Plan.{range_of}
use Rattle.slot_lock.specs.Slots.{IsFreePage}
use Rattle.vm_calls.specs.declared.decision.Decision.{Decision}
use Rattle.vm_calls.specs.Decisions.{DecidesPage}
use Rattle.machine_model.specs.declared.phase.Phase.TheVariants.{Lock}
use Rattle.machine_model.specs.World.{World}
use Rattle.machine_model.specs.Step.{event_limit}
use Rattle.core_steps.specs.Moving.{IsAt}

-- no core but this one is in the set
abbrev pub IsAlone : ℕ → ℕ → Type 0
IsAlone set core = (d : ℕ) → put (members set) core false d ≡ false

-- The core's call is to lock the only page of this change, a free one, of which the decision is
-- this, and its steps can be counted.
pub record IsPageChange (w : World) (core : ℕ) (change : Change) (page : FreePage)
    (decision : Decision) : Type 0 where
  pub at : IsAt w core (Lock (To.Change change) (range_of change).first)
  pub one : (range_of change).end ≡ (range_of change).first + 1
  pub found : IsFreePage w.slots (range_of change).first page
  pub decides : DecidesPage w.made.file change page.info decision
  pub room : w.calls.events + 5 ≤ event_limit
