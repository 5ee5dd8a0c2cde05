-- What is done of a call at once: its event, and those of its first steps
use Rattle.std.specs.Prelude.{◌≡◌, ℕ, suc, ◌<◌, ◌+◌, ◌++◌, ◌∷◌, [], length, Ok, Bool}
use Rattle.vm_base.specs.declared.page.PageRange.{PageRange}
use Rattle.vm_base.specs.declared.requests.Request.{Request}
use Rattle.vm_base.specs.Functions.{put}
use Rattle.slot_lock.specs.declared.plan.Plan.TheVariants as PlanOf
use Rattle.slot_lock.specs.declared.plan.Touch.{Touch}
use Rattle.machine_model.specs.declared.event.Event.TheVariants.{Call}
use Rattle.machine_model.specs.declared.event.Outcome.TheVariants.{Stepped}
use Rattle.machine_model.specs.declared.phase.Phase.TheVariants.{Free}
use Rattle.machine_model.specs.World.{World}
use Rattle.machine_model.specs.Changes.{checked_by}
use Rattle.machine_model.specs.Step.{Step, StepsTo, event_limit}
use Rattle.machine_model.specs.Sound.{IsReached}
use Rattle.core_steps.specs.Dividing.{StepsAsMap}
use Rattle.core_steps.specs.Finishing.{Calls, CallsAsMap, finish_limit}
use Rattle.core_steps.specs.declared.machine.Finished.TheVariants.{Last}
use Rattle.core_steps.specs.declared.at_once.starting.Started.{Started}
use Rattle.core_steps.specs.declared.at_once.starting.Started.TheVariants.{Begun, Ended}

-- how far a call has come that was begun with its first steps
abbrev pub Starts : World → ℕ → Request → Started → World → Type 0
Starts w core request (Begun steps) v = (steps < finish_limit)
    × ((m : World) × Step w (Call core request) Stepped m × StepsTo m core steps v)
Starts w core request (Ended o) v = Calls w core request (Last o) v

-- and its steps divide slots as the map does
abbrev pub StartsAsMap : (PageRange → ℕ → ℕ → Bool) → World → ℕ → Request → Started → World → Type 0
StartsAsMap parts w core request (Begun steps) v =
    (m : World) × Step w (Call core request) Stepped m × StepsAsMap parts m core steps v
StartsAsMap parts w core request (Ended o) v = CallsAsMap parts w core request (Ok (Last o)) v

-- ---- a call that can begin

-- the core has no call, and the limit of calls isn't reached
pub record CanBegin (w : World) (core : ℕ) : Type 0 where
  pub free : w.calls.phase core ≡ Free
  pub room : length w.calls.requests < w.made.calls

-- a call of the core can begin, and all its events that are made at once can be counted
pub record CanStart (w : World) (core : ℕ) : Type 0 where
  pub reached : ∥ IsReached w ∥₁
  pub below : w.calls.events + 12 < event_limit
  pub here : core < w.made.cores
  pub begins : CanBegin w core

-- and it is this access
pub record IsAccess (w : World) (core : ℕ) (request : Request) (touch : Touch) : Type 0 where
  pub start : CanStart w core
  pub plan : checked_by w.made core request ≡ Ok (PlanOf.Touch touch)

-- the request is kept, and the core's call has its number
abbrev pub with_call : ℕ → Request → World → World
with_call core request w = record w {
  calls = record w.calls {
    requests = w.calls.requests ++ request ∷ [];
    number = put w.calls.number core (suc (length w.calls.requests));
  };
}
