-- What finishing a call comes to: steps of a core, one after another, until one is not Stepped
use Rattle.std.specs.Prelude.{◌≡◌, ◌≢◌, ℕ, ◌<◌, ◌^◌, ◌⊎◌, Bool, Result, Ok, Err}
use Rattle.vm_base.specs.declared.memory.NoMemory.{NoMemory}
use Rattle.vm_base.specs.declared.page.PageRange.{PageRange}
use Rattle.vm_base.specs.declared.requests.Request.{Request}
use Rattle.core_steps.specs.declared.machine.Finished.{Finished}
use Rattle.core_steps.specs.declared.machine.Finished.TheVariants.{Last, Stuck}
use Rattle.machine_model.specs.declared.event.Event.TheVariants.{Call, Go}
use Rattle.machine_model.specs.declared.event.Outcome.{Outcome}
use Rattle.machine_model.specs.declared.event.Outcome.TheVariants.{Stepped}
use Rattle.machine_model.specs.World.{World}
use Rattle.machine_model.specs.Step.{Step, StepsTo}
use Rattle.core_steps.specs.Moving.{MayWant}
use Rattle.core_steps.specs.Dividing.{DividesAsMap, StepsAsMap}

-- so many steps at the most
abbrev pub finish_limit : ℕ
finish_limit = 2 ^ 40

-- the last outcome is the first that isn't Stepped; the limit is told only where all of so many
-- steps were
abbrev pub EndsIn : World → ℕ → ℕ → Finished → World → Type 0
EndsIn w core n (Last outcome) v =
    (n < finish_limit) × (outcome ≢ Stepped)
    × ((m : World) × StepsTo w core n m × Step m (Go core) outcome v)
EndsIn w core n Stuck v = (n ≡ finish_limit) × StepsTo w core n v

abbrev pub Finishes : World → ℕ → Finished → World → Type 0
Finishes w core finished v = (n : ℕ) × EndsIn w core n finished v

-- some steps were made, and the next, which may be refused for memory, was
abbrev pub IsRefused : Bool → World → ℕ → World → Type 0
IsRefused keeps w core v =
    (n : ℕ) × (n < finish_limit) × MayWant keeps v (Go core) × StepsTo w core n v

-- ---- a call with its steps

-- of a call that began the steps are made that finish it; of one that didn't this is the outcome
abbrev pub FinishesAfter : World → ℕ → Outcome → Finished → World → Type 0
FinishesAfter m core Stepped finished v = Finishes m core finished v
FinishesAfter m core o finished v = (v ≡ m) × (finished ≡ Last o)

-- a call begins, and is finished
abbrev pub Calls : World → ℕ → Request → Finished → World → Type 0
Calls w core request finished v =
    (o : Outcome) × (m : World) × Step w (Call core request) o m × FinishesAfter m core o finished v

-- it began, and one of its steps, which may be refused for memory, was
abbrev pub IsCallRefused : Bool → World → ℕ → Request → World → Type 0
IsCallRefused keeps w core request v =
    (m : World) × Step w (Call core request) Stepped m × IsRefused keeps m core v

-- ---- how slots are divided by the way

-- each step of the core's call that was made divides slots as the map does, and so does the last
abbrev pub FinishesAsMap : (PageRange → ℕ → ℕ → Bool) → World → ℕ → Result Finished NoMemory → World
    → Type 0
FinishesAsMap parts w core (Ok (Last outcome)) v =
    (n : ℕ) × ((m : World) × StepsAsMap parts w core n m × Step m (Go core) outcome v
    × DividesAsMap parts m (Go core) outcome v)
FinishesAsMap parts w core (Ok Stuck) v = (n : ℕ) × StepsAsMap parts w core n v
FinishesAsMap parts w core (Err refused) v = (n : ℕ) × StepsAsMap parts w core n v

-- likewise those of a call that began; one that didn't divides none
abbrev pub CallsAsMap : (PageRange → ℕ → ℕ → Bool) → World → ℕ → Request → Result Finished NoMemory
    → World → Type 0
CallsAsMap parts w core request r v =
    ((o : Outcome) × (o ≢ Stepped) × Step w (Call core request) o v × (r ≡ Ok (Last o)))
    ⊎ ((m : World) × Step w (Call core request) Stepped m × FinishesAsMap parts m core r v)
