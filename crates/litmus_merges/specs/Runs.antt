-- Runs of pages that steps change alike
use Rattle.std.specs.Prelude.{◌≡◌, ℕ, ◌≤◌, ◌<◌, List, Some, slice_get}
use Rattle.vm_base.specs.Functions.{has}
use Rattle.slot_lock.specs.Plan.{range_of}
use Rattle.litmus_merges.specs.declared.change.MapChange.{MapChange}
use Rattle.litmus_merges.specs.declared.change.MapChange.TheVariants as StepOf

-- the step's range has each page from this one up to the end, or none
abbrev pub IsOneRun : MapChange → ℕ → ℕ → Type 0
IsOneRun (StepOf.Change change) page end =
    (p : ℕ) → page ≤ p → p < end → has (range_of change) p ≡ has (range_of change) page
IsOneRun _ page end = Unit {0}

-- so it is with each of these steps
abbrev pub AreOneRun : List MapChange → ℕ → ℕ → Type 0
AreOneRun steps page end = (k : ℕ) (step : MapChange) → slice_get steps k ≡ Some step → IsOneRun step page end

-- with each of the first so many
abbrev pub AreOneRunSoFar : List MapChange → ℕ → ℕ → ℕ → Type 0
AreOneRunSoFar steps n page end = (k : ℕ) (step : MapChange) → k < n → slice_get steps k ≡ Some step → IsOneRun step page end
