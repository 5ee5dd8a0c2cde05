-- What a recorder of changes keeps
use Rattle.std.specs.Prelude.{◌≡◌, ℕ, Bool, true, List, [], ◌∷◌, ◌++◌}
use Rattle.slot_lock.specs.declared.plan.Change.{Change}
use Rattle.machine_model.specs.World.{World}
use Rattle.machine_model.specs.declared.event.Event.{Event}
use Rattle.machine_model.specs.declared.event.Event.TheVariants.{Go}
use Rattle.machine_model.specs.declared.event.Outcome.{Outcome}
use Rattle.machine_model.specs.declared.event.Outcome.TheVariants.{Stepped}
use Rattle.machine_model.specs.declared.phase.Phase.{Phase}
use Rattle.machine_model.specs.declared.phase.Phase.TheVariants.{Free, Acks}
use Rattle.draw_steps.specs.declared.moments.Recorded.{Recorded}
use Rattle.watched.specs.Sums.{more}
use Rattle.draw_records.specs.Looking.{phase_in}
use Rattle.draw_records.specs.Recording.{made}

-- how many steps there were, what was recorded, and whether memory was there for all of it
pub record Changes : Type 0 where
  pub steps : ℕ
  pub moments : List Recorded
  pub is_whole : Bool

-- before the first step
abbrev pub nothing_changed : Changes
nothing_changed = record { steps = 0; moments = []; is_whole = true }

-- the next step
abbrev pub advanced : Changes → Changes
advanced r = record r { steps = more r.steps 1 }

-- What a change makes of its pages is noted, in the present step. Memory is wanted for it, and what isn't whole stays so.
pub record ChangeNoted (old : Changes) (change : Change) (new : Changes) : Type 0 where
  pub steps : new.steps ≡ old.steps
  pub moments : new.moments ≡ old.moments ++ record { step = old.steps; moment = made change } ∷ []
  pub whole : new.is_whole ≡ true → old.is_whole ≡ true

-- A call that stood so came to this outcome: its change is made once it goes on, no core being awaited. Of all else
-- nothing is noted.
abbrev pub StepNoted : Changes → Phase → Outcome → Changes → Type 0
StepNoted old (Acks goal change) Stepped new = ChangeNoted old change new
StepNoted old _ _ new = new ≡ old

-- where the call stands of which an event is a step
abbrev pub stood : World → Event → Phase
stood w (Go core) = phase_in w core
stood w _ = Free

-- what a recorder of changes may be after a step from the one state by the event to the outcome and the other state
abbrev pub ChangesRecorded : Changes → World → Event → Outcome → World → Changes → Type 0
ChangesRecorded old w e o v new = StepNoted (advanced old) (stood w e) o new
