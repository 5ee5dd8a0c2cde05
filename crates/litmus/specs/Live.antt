-- A litmus test that is run on threads.
use Rattle.std.specs.Prelude.{◌≡◌, ◌⊎◌, ℕ, true, false, List, Some, Ok}
use Rattle.std.specs.List.{flat_map, list_all}
use Rattle.std.specs.declared.alloc.Global.{Global}
use Rattle.litmus_merges.specs.Finals.{loads_by}
use Rattle.trace_words.specs.Declarations.{DeclarationView}
use Rattle.trace_io.specs.Lines.{lines_of}
use Rattle.litmus_text.specs.Scripts.{Read, litmus_of}
use Rattle.litmus_outcomes.specs.declared.outcome.Outcomes.{Outcomes}
use Rattle.litmus.specs.Runs.{CountsRuns}
use Rattle.litmus.specs.declared.fault.LiveTestFault.{LiveTestFault}
use Rattle.litmus.specs.Kernels.{IsUnread, IsWant, Judges}
use Rattle.litmus.specs.Opening.{calls_of, is_called}
use Rattle.litmus.specs.Tells.{IsLate, Lists}
use Rattle.litmus.specs.declared.faults.TestFault.{TestFault}
use Rattle.litmus.specs.declared.faults.TestFault.TheVariants as Why

-- The counts are those of so many runs of the test, whose opening threads can be told to do.
pub record CountsLive (r : Read) (runs : ℕ) (counts : List ℕ) : Type 0 where
  pub asked : DeclarationView
  pub is : r.asked ≡ Some asked
  pub called : list_all is_called r.opening ≡ true
  pub counted : CountsRuns asked (flat_map calls_of r.opening) r.calls (loads_by 0 r.finals) r.finals runs counts

-- the opening has another step
abbrev pub IsUntold : Read → TestFault → Type 0
IsUntold r fault = (list_all is_called r.opening ≡ false) × (fault ≡ Why.NoTask)

-- a run came to no outcome
abbrev pub IsNoRun : TestFault → Type 0
IsNoRun fault = (f : LiveTestFault) × (fault ≡ Why.Live f)

abbrev pub IsUnrun : Read → TestFault → Type 0
IsUnrun r fault = IsWant fault ⊎ (IsUntold r fault ⊎ IsNoRun fault)

-- These counts, which have no mappings, are judged by the test's outcomes.
pub record TellsLive (limit runs : ℕ) (lines : List (List ℕ)) (text : List ℕ) (status : ℕ) : Type 0 where
  pub test : Read
  pub is : litmus_of lines ≡ Ok test
  pub counts : List ℕ
  pub counted : CountsLive test runs counts
  pub found : Outcomes Global
  pub lists : Lists test found
  pub judges : Judges test false found limit (lines_of counts) text status

abbrev pub FailsLive : List (List ℕ) → TestFault → Type 0
FailsLive lines fault = IsLate fault
    ⊎ (IsUnread lines fault ⊎ (((test : Read) × (litmus_of lines ≡ Ok test) × IsUntold test fault) ⊎ IsNoRun fault))
