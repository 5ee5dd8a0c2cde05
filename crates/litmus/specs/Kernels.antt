-- A litmus test beside what another system does.
use Rattle.std.specs.Prelude.{◌≡◌, ◌⊎◌, ℕ, Bool, true, false, List, Some, Ok, Err}
use Rattle.std.specs.List.{flat_map, list_all}
use Rattle.trace_words.specs.Declarations.{DeclarationView}
use Rattle.trace_io.specs.declared.fault.IoFault.TheVariants as IoOf
use Rattle.litmus_text.specs.Scripts.{Read, litmus_of}
use Rattle.litmus_text.specs.declared.faults.LitmusFault.{LitmusFault}
use Rattle.litmus_text.specs.declared.faults.LitmusFault.TheVariants as TextOf
use Rattle.litmus_report.specs.Counts.{bad_line, counts_status, counts_text}
use Rattle.litmus_report.specs.Program.{program_text}
use Rattle.litmus_outcomes.specs.declared.outcome.Outcomes.{Outcomes}
use Rattle.litmus.specs.Opening.{calls_of, is_called}
use Rattle.litmus.specs.Tells.{IsLate, Lists, known_with, searched_by}
use Rattle.litmus.specs.declared.faults.TestFault.{TestFault}
use Rattle.litmus.specs.declared.faults.TestFault.TheVariants as Why

-- ---- a program that makes its calls

-- Mappings aren't asked for, and the text is the program of the test's files, of its opening's calls, of its lists, and of its final addresses.
pub record MakesCalls (r : Read) (text : List ℕ) : Type 0 where
  pub asked : DeclarationView
  pub is : r.asked ≡ Some asked
  pub unmapped : r.maps ≡ false
  pub called : list_all is_called r.opening ≡ true
  pub text_is : text ≡ program_text asked.files (flat_map calls_of r.opening) r.calls r.finals

-- memory was refused
abbrev pub IsWant : TestFault → Type 0
IsWant fault = fault ≡ Why.Text (TextOf.Io IoOf.NoMemory)

-- mappings are asked for, or the opening has a step that no call makes
abbrev pub IsNoProgram : Read → TestFault → Type 0
IsNoProgram r fault =
    ((r.maps ≡ true) × (fault ≡ Why.NoMaps)) ⊎ ((list_all is_called r.opening ≡ false) × (fault ≡ Why.NoCall))

-- so it is, or memory is wanted
abbrev pub IsUncalled : Read → TestFault → Type 0
IsUncalled r fault = IsWant fault ⊎ IsNoProgram r fault

-- the lines are no test
abbrev pub IsUnread : List (List ℕ) → TestFault → Type 0
IsUnread lines fault = (f : LitmusFault) × (litmus_of lines ≡ Err f) × (fault ≡ Why.Text f)

pub record TellsProgram (lines : List (List ℕ)) (text : List ℕ) (status : ℕ) : Type 0 where
  pub test : Read
  pub is : litmus_of lines ≡ Ok test
  pub makes : MakesCalls test text
  pub status_is : status ≡ 0

abbrev pub FailsProgram : List (List ℕ) → TestFault → Type 0
FailsProgram lines fault = IsWant fault ⊎ IsUnread lines fault
    ⊎ ((test : Read) × (litmus_of lines ≡ Ok test) × IsNoProgram test fault)

-- ---- counts that another system gave

-- The counts are judged by the test's outcomes, with the mappings or without; it is told where these are asked for and left out.
pub record Judges {A : Type 0} (r : Read) (maps : Bool) (found : Outcomes A) (limit : ℕ) (counts : List (List ℕ)) (text : List ℕ)
    (status : ℕ) : Type 0 where
  pub text_is : text ≡ counts_text (known_with maps r found) (searched_by r maps found limit) counts
  pub status_is : status ≡ counts_status (known_with maps r found) found.whole counts

-- want of memory, or a line that is no count
abbrev pub IsUncounted : List (List ℕ) → TestFault → Type 0
IsUncounted counts fault = IsWant fault ⊎ ((number : ℕ) × (bad_line 1 counts ≡ Some number) × (fault ≡ Why.BadCount number))

pub record TellsObserved (A : Type 0) (limit : ℕ) (counts lines : List (List ℕ)) (text : List ℕ) (status : ℕ) : Type 0 where
  pub test : Read
  pub is : litmus_of lines ≡ Ok test
  pub found : Outcomes A
  pub lists : Lists test found
  pub judges : Judges test test.maps found limit counts text status

abbrev pub FailsObserved : List (List ℕ) → List (List ℕ) → TestFault → Type 0
FailsObserved counts lines fault = IsLate fault ⊎ IsUnread lines fault
    ⊎ ((number : ℕ) × (bad_line 1 counts ≡ Some number) × (fault ≡ Why.BadCount number))
