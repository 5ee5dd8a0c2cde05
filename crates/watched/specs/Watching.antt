-- What one who watches a run is at its end: what each step in turn may make of them
use Rattle.std.specs.Prelude.{◌≡◌, ◌≢◌, ℕ, ◌<◌, List, [], ◌∷◌, ◌++◌, replicate}
use Rattle.vm_base.specs.declared.requests.Request.{Request}
use Rattle.machine_model.specs.declared.event.Event.{Event}
use Rattle.machine_model.specs.declared.event.Event.TheVariants.{Call, Go}
use Rattle.machine_model.specs.declared.event.Outcome.{Outcome}
use Rattle.machine_model.specs.declared.event.Outcome.TheVariants.{Stepped}
use Rattle.machine_model.specs.World.{World}
use Rattle.machine_model.specs.Step.{Step}
use Rattle.core_steps.specs.declared.machine.Finished.{Finished}
use Rattle.core_steps.specs.declared.machine.Finished.TheVariants.{Last, Stuck}
use Rattle.core_steps.specs.Finishing.{finish_limit}

-- a step makes of one who watches what this function says
abbrev pub makes : {S : Type 0} → (S → World → Event → Outcome → World → S) → S → World → Event → Outcome → World → S → Type 0
makes after one w e o v other = other ≡ after one w e o v

-- the events, in order, may come to these outcomes, one after another, and so one who was this
-- before them may be that behind them
abbrev pub Watches : {S : Type 0} → (S → World → Event → Outcome → World → S → Type 0) → S → World
    → List Event → List Outcome → World → S → Type 0
Watches after one w [] [] v other = (v ≡ w) × (other ≡ one)
Watches {S} after one w (e ∷ es) (o ∷ os) v other =
    (m : World) × (mid : S) × Step w e o m × after one w e o m mid × Watches after mid m es os v other
Watches after one w [] (o ∷ os) v other = ⊥
Watches after one w (e ∷ es) [] v other = ⊥

-- the core's call goes on until an outcome that isn't Stepped, or for as many steps as finish makes
abbrev pub GoesUntil : ℕ → ℕ → Finished → List Event → List Outcome → Type 0
GoesUntil core n (Last o) es os =
    (n < finish_limit) × (o ≢ Stepped) × (es ≡ replicate n (Go core) ++ Go core ∷ [])
    × (os ≡ replicate n Stepped ++ o ∷ [])
GoesUntil core n Stuck es os =
    (n ≡ finish_limit) × (es ≡ replicate n (Go core)) × (os ≡ replicate n Stepped)

-- the steps that finish the core's call are watched
abbrev pub WatchesFinish : {S : Type 0} → (S → World → Event → Outcome → World → S → Type 0) → S → World
    → ℕ → Finished → World → S → Type 0
WatchesFinish after one w core finished v other =
    (n : ℕ) × (es : List Event) × (os : List Outcome) × GoesUntil core n finished es os
    × Watches after one w es os v other

-- of a call that began the steps are watched that finish it; one that didn't has told why
abbrev pub WatchesAfter : {S : Type 0} → (S → World → Event → Outcome → World → S → Type 0) → S → World
    → ℕ → Outcome → Finished → World → S → Type 0
WatchesAfter after one m core Stepped finished v other =
    WatchesFinish after one m core finished v other
WatchesAfter after one m core o finished v other =
    (v ≡ m) × (other ≡ one) × (finished ≡ Last o)

-- a call, and the steps that finish it, are watched
abbrev pub WatchesCall : {S : Type 0} → (S → World → Event → Outcome → World → S → Type 0) → S → World
    → ℕ → Request → Finished → World → S → Type 0
WatchesCall {S} after one w core request finished v other =
    (o : Outcome) × (m : World) × (mid : S) × Step w (Call core request) o m
    × after one w (Call core request) o m mid × WatchesAfter after mid m core o finished v other

-- ---- a refusal for memory

-- the steps of the core's call before the one that is refused are watched
abbrev pub WatchesPart : {S : Type 0} → (S → World → Event → Outcome → World → S → Type 0) → S → World
    → ℕ → World → S → Type 0
WatchesPart after one w core v other =
    (n : ℕ) × Watches after one w (replicate n (Go core)) (replicate n Stepped) v other

-- and so is the begin of the call
abbrev pub WatchesCallPart : {S : Type 0} → (S → World → Event → Outcome → World → S → Type 0) → S → World
    → ℕ → Request → World → S → Type 0
WatchesCallPart {S} after one w core request v other =
    (m : World) × (mid : S) × Step w (Call core request) Stepped m × after one w (Call core request) Stepped m mid
    × WatchesPart after mid m core v other
