-- A machine that an opening leads to
use Rattle.std.specs.Prelude.{◌≡◌, ℕ, ◌≤◌, List}
use Rattle.slot_lock.specs.Slots.{Slots, IsNew}
use Rattle.machine_model.specs.declared.event.Event.{Event}
use Rattle.machine_model.specs.declared.event.Outcome.{Outcome as Result}
use Rattle.machine_model.specs.declared.phase.Phase.TheVariants.{Free}
use Rattle.machine_model.specs.World.{World, Made, new_world}
use Rattle.machine_model.specs.Step.{Run}
use Rattle.machine_model.specs.Sound.{IsSoundState}

-- a run of these events leads to it from a new machine
pub record IsRun (made : Made) (events : List Event) (w : World) : Type 0 where
  pub few : made.cores ≤ 64
  pub slots : Slots
  pub new : IsNew slots
  pub results : List Result
  pub run : Run (new_world made slots) events results w
  pub made_is : w.made ≡ made
  pub sound : IsSoundState w

-- and no core has a call there
pub record IsCalm (made : Made) (events : List Event) (w : World) : Type 0 where
  pub by : IsRun made events w
  pub free : (c : ℕ) → w.calls.phase c ≡ Free

-- two states with the same calls begun and the same log
pub record AreAlike (w v : World) : Type 0 where
  pub requests : w.calls.requests ≡ v.calls.requests
  pub log : w.calls.log ≡ v.calls.log
