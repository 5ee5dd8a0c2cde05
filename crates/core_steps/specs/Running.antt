-- Why running a list of events on a new machine may fail
use Rattle.std.specs.Prelude.{◌≡◌, ℕ, ◌<◌, ◌⊎◌, Bool, [], ◌∷◌, length, take, slice_get, List, Option}
use Rattle.std.specs.Prelude.{None, Some}
use Rattle.core_steps.specs.declared.run_result.RunFault.{RunFault}
use Rattle.core_steps.specs.declared.run_result.RunFault.TheVariants as By
use Rattle.machine_model.specs.declared.setup.Setup.{Setup}
use Rattle.machine_model.specs.declared.event.Event.{Event}
use Rattle.machine_model.specs.declared.event.Outcome.{Outcome}
use Rattle.machine_model.specs.World.{World}
use Rattle.machine_model.specs.Step.{Run, Step}
use Rattle.vm_base.specs.declared.page.PageRange.{PageRange}
use Rattle.slot_lock.specs.Slots.{Slots}
use Rattle.vm_base.specs.Plain.{File, Plain, nothing_mapped}
use Rattle.vm_base.specs.declared.log.Entry.{Entry}
use Rattle.machine_model.specs.Brackets.{calls_of, requests_of}
use Rattle.vm_base.specs.Log.{Replays}
use Rattle.machine_model.specs.Setups.{IsFirstFault, fault_of}
use Rattle.core_steps.specs.Moving.{MayWant, JoinsAsMap}
use Rattle.core_steps.specs.Dividing.{DividesAsMap}

-- the events before this index were run, and the one there is one that may be refused for memory
abbrev pub IsRefusedAt : Bool → World → List Event → ℕ → Type 0
IsRefusedAt keeps w events at =
    (e : Event) × (slice_get events at ≡ Some e)
    × ((outcomes : List Outcome) × ((m : World) × Run w (take at events) outcomes m × MayWant keeps m e))

-- The setup makes no machine, or an event was refused. The number of events stands for the list of
-- outcomes, which takes memory where there is an event, and found no room before the first of them.
abbrev pub Fails : {A : Type 0} → Bool → World → Setup A → List Event → RunFault → Type 0
Fails keeps w setup events (By.Setup fault) = IsFirstFault setup fault
Fails keeps w setup events (By.NoMemory at) =
    (fault_of setup ≡ None)
    × (((at ≡ length events) × (0 < length events)) ⊎ IsRefusedAt keeps w events at)

-- The events, in order, may come to these outcomes one after another. Slots are joined and divided
-- just where the map can, or has to, and as the map does.
abbrev pub RunsAsMap : (PageRange → ℕ → ℕ → Bool) → (Slots → ℕ → Type 0)
    → (Slots → Slots → ℕ → Type 0) → World → List Event → List Outcome → World → Type 0
RunsAsMap parts CanFold Folds w [] [] v = v ≡ w
RunsAsMap parts CanFold Folds w (e ∷ es) (o ∷ os) v = (m : World) × Step w e o m
    × JoinsAsMap CanFold Folds w e o m × DividesAsMap parts w e o m
    × RunsAsMap parts CanFold Folds m es os v
RunsAsMap parts CanFold Folds w [] (o ∷ os) v = ⊥
RunsAsMap parts CanFold Folds w (e ∷ es) [] v = ⊥

-- The log, with the requests of the calls that these events began, leads from no mappings and these
-- files to a plain page map.
abbrev pub LogsPlainly : (ℕ → Option File) → List Event → List Outcome → List Entry → Type 0
LogsPlainly file events outcomes log =
    (t : Plain) × Replays (requests_of (calls_of events outcomes)) (nothing_mapped file) log t
