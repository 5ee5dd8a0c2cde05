-- A change of a range whose slots nobody holds, and whose edges none crosses
use Rattle.std.specs.Prelude.{ℕ, ◌+◌, ◌*◌, ◌≤◌}
use Rattle.slot_lock.specs.declared.plan.Change.{Change}
use Rattle.slot_lock.specs.declared.plan.Goal.TheVariants as To
use Rattle.slot_lock.specs.declared.survey.Survey.{Survey}
use Rattle.slot_lock.specs.Plan.{range_of}
use Rattle.slot_lock.specs.Surveys.{AreFree}
use Rattle.vm_calls.specs.declared.decision.Decision.{Decision}
use Rattle.vm_calls.specs.Decisions.{DecidesChange}
use Rattle.machine_model.specs.declared.phase.Phase.TheVariants.{Lock}
use Rattle.machine_model.specs.World.{World}
use Rattle.machine_model.specs.Step.{event_limit}
use Rattle.core_steps.specs.Moving.{IsAt}
use Rattle.core_steps.specs.PageChange.{IsAlone}

-- The core's call is to lock the first slot of this change's range, all of whose slots are free, have
-- this together and no recorded core but this one, and its steps can be counted.
pub record IsFreeRange (w : World) (core : ℕ) (change : Change) (found : Survey) : Type 0 where
  pub at : IsAt w core (Lock (To.Change change) (range_of change).first)
  pub free : AreFree w.slots (range_of change) found
  pub alone : IsAlone found.cores core
  pub room : w.calls.events + (2 * found.slots + 3) ≤ event_limit

-- and this is what is decided of it
pub record IsRangeChange (w : World) (core : ℕ) (change : Change) (found : Survey)
    (decision : Decision) : Type 0 where
  pub range : IsFreeRange w core change found
  pub decides : DecidesChange w.made.file w.slots change decision
