-- What is told of a litmus test.
use Rattle.std.specs.Prelude.{◌≡◌, ◌⊎◌, ◌&&◌, ℕ, ◌+◌, ◌<◌, Bool, not, List, length, map, slice_get, is_some, None, Some, Vec, Ok, Err}
use Rattle.std.specs.List.{flat_map}
use Rattle.machine_model.specs.declared.event.Event.{Event}
use Rattle.trace_words.specs.Declarations.{DeclarationView, made_by}
use Rattle.trace_io.specs.declared.fault.IoFault.TheVariants as IoOf
use Rattle.litmus_text.specs.Scripts.{Read, litmus_of}
use Rattle.litmus_text.specs.declared.faults.LitmusFault.{LitmusFault}
use Rattle.litmus_text.specs.declared.faults.LitmusFault.TheVariants as TextOf
use Rattle.litmus_report.specs.Reports.{AreSorted, Known, report_text, row_text, status_of, texts_of}
use Rattle.litmus_report.specs.Verdicts.{Outcome as Ended}
use Rattle.litmus_report.specs.Witness.{IsTrace}
use Rattle.litmus_report.specs.declared.reporting.Searched.{Searched}
use Rattle.litmus_outcomes.specs.Outcomes.{AreLines, AreOutcomes}
use Rattle.litmus_outcomes.specs.declared.outcome.LitmusOutcome.{LitmusOutcome}
use Rattle.litmus_outcomes.specs.declared.outcome.Outcomes.{Outcomes}
use Rattle.litmus.specs.Lacking.{may_lack}
use Rattle.litmus.specs.Lists.{row_line}
use Rattle.litmus.specs.Opening.{opened_of}
use Rattle.litmus.specs.declared.faults.TestFault.{TestFault}
use Rattle.litmus.specs.declared.faults.TestFault.TheVariants as Why
use Rattle.litmus.specs.declared.telling.Listing.{Listing}
use Rattle.litmus.specs.declared.telling.Listing.TheVariants as Shown

-- an outcome as it is told
abbrev pub ended : {A : Type 0} → LitmusOutcome A → Ended
ended o = record { replies = o.replies.items; finals = o.finals.items; maps = o.maps.items; reached = is_some o.witness }

-- The outcomes are those of the test's calls behind its opening, on the machine that it declares.
pub record Lists {A : Type 0} (r : Read) (found : Outcomes A) : Type 0 where
  pub asked : DeclarationView
  pub is : r.asked ≡ Some asked
  pub opening : AreLines (flat_map opened_of r.opening) found.opening.items
  pub outcomes : AreOutcomes (made_by asked) r.calls r.finals r.maps found

-- what is known of them, with the mappings or without
abbrev pub known_with : {A : Type 0} → Bool → Read → Outcomes A → Known
known_with maps r found = record { calls = r.calls; addrs = r.finals; maps = maps; outcomes = map ended found.list.items }

abbrev pub known_of : {A : Type 0} → Read → Outcomes A → Known
known_of r found = known_with r.maps r found

-- How the search ended: whether the outcomes are all, whether those without a frame are left out, which may come, and whether mappings
-- are asked for and not told.
abbrev pub searched_by : {A : Type 0} → Read → Bool → Outcomes A → ℕ → Searched
searched_by r maps found limit =
    record { whole = found.whole; lacks_frames = may_lack r; lacks_maps = r.maps && not maps; limit = limit }

-- The text is the report of the test's outcomes in the order of their texts.
pub record Reports {A : Type 0} (name : List ℕ) (r : Read) (found : Outcomes A) (limit : ℕ) (text : List ℕ) : Type 0 where
  pub rows : List (Vec ℕ A × ℕ)
  pub order : AreSorted (texts_of (known_of r found)) rows
  pub is : text ≡ report_text name (known_of r found) (searched_by r r.maps found limit) r.clauses (map row_text rows)

-- The text has the outcomes in that order, one in a line.
pub record ListsAll {A : Type 0} (r : Read) (found : Outcomes A) (text : List ℕ) : Type 0 where
  pub rows : List (Vec ℕ A × ℕ)
  pub order : AreSorted (texts_of (known_of r found)) rows
  pub is : text ≡ flat_map (λ row. row_line r.maps (map ended found.list.items) row.1) rows

-- This outcome has this number in that order, from 1.
pub record IsNumbered {A : Type 0} (r : Read) (found : Outcomes A) (number : ℕ) (row : Vec ℕ A × ℕ) (outcome : LitmusOutcome A) : Type 0 where
  pub rows : List (Vec ℕ A × ℕ)
  pub order : AreSorted (texts_of (known_of r found)) rows
  pub place : ℕ
  pub numbered : number ≡ place + 1
  pub is_row : slice_get rows place ≡ Some row
  pub is_outcome : slice_get found.list.items row.1 ≡ Some outcome

-- The text is a trace of a witness of the outcome with this number.
pub record Witnesses {A : Type 0} (r : Read) (found : Outcomes A) (number : ℕ) (text : List ℕ) : Type 0 where
  pub row : Vec ℕ A × ℕ
  pub outcome : LitmusOutcome A
  pub is_numbered : IsNumbered r found number row outcome
  pub events : Vec Event A
  pub witness : outcome.witness ≡ Some events
  pub is : IsTrace (row_text row) r.front events.items text

-- what is written of the outcomes, and the status
abbrev pub Shows : {A : Type 0} → Listing → List ℕ → Read → Outcomes A → ℕ → List ℕ → Type 0
Shows Shown.Report name r found limit text = Reports name r found limit text
Shows Shown.List name r found limit text = ListsAll r found text
Shows (Shown.Witness number) name r found limit text = Witnesses r found number text

abbrev pub status_at : {A : Type 0} → Listing → Read → Outcomes A → ℕ → ℕ
status_at Shown.Report r found limit = status_of (known_of r found) (searched_by r r.maps found limit) r.clauses
status_at Shown.List r found limit = status_of (known_of r found) (searched_by r r.maps found limit) r.clauses
status_at (Shown.Witness number) r found limit = 0

-- The test that the lines are has such outcomes, and this is written of them.
pub record Tells (A : Type 0) (name : List ℕ) (view : Listing) (limit : ℕ) (lines : List (List ℕ)) (text : List ℕ) (status : ℕ) : Type 0
  where
    pub test : Read
    pub is : litmus_of lines ≡ Ok test
    pub found : Outcomes A
    pub lists : Lists test found
    pub shows : Shows view name test found limit text
    pub status_is : status ≡ status_at view test found limit

-- want of memory, or an opening that leaves a call open
abbrev pub IsLate : TestFault → Type 0
IsLate fault = (fault ≡ Why.Text (TextOf.Io IoOf.NoMemory)) ⊎ ((core : ℕ) × (fault ≡ Why.Open core))

-- it has no outcome with this number
abbrev pub HasNone : {A : Type 0} → Outcomes A → ℕ → TestFault → Type 0
HasNone found number fault = (fault ≡ Why.NoOutcome number) × ((number ≡ 0) ⊎ (length found.list.items < number))

-- or the one with this number has no witness
abbrev pub HasUnwitnessed : {A : Type 0} → Read → Outcomes A → ℕ → TestFault → Type 0
HasUnwitnessed {A} r found number fault = (fault ≡ Why.NoWitness number)
    × ((row : Vec ℕ A × ℕ) × (outcome : LitmusOutcome A) × IsNumbered r found number row outcome × (outcome.witness ≡ None))

-- and this one is asked for
abbrev pub IsMissing : {A : Type 0} → Listing → Read → Outcomes A → TestFault → Type 0
IsMissing view r found fault =
    (number : ℕ) × (view ≡ Shown.Witness number) × (HasNone found number fault ⊎ HasUnwitnessed r found number fault)

abbrev pub IsUnshown : {A : Type 0} → Listing → Read → Outcomes A → TestFault → Type 0
IsUnshown view r found fault = IsLate fault ⊎ IsMissing view r found fault

-- The test that the lines are has outcomes, and the one that is asked for isn't among them, or has no witness.
pub record Lacks (A : Type 0) (view : Listing) (lines : List (List ℕ)) (fault : TestFault) : Type 0 where
  pub test : Read
  pub is : litmus_of lines ≡ Ok test
  pub found : Outcomes A
  pub lists : Lists test found
  pub missing : IsMissing view test found fault

-- Nothing is told: for want of memory, for the opening, for an outcome that isn't there, or for the first fault of the text.
abbrev pub Fails : Type 0 → Listing → List (List ℕ) → TestFault → Type 0
Fails A view lines fault =
    (IsLate fault ⊎ Lacks A view lines fault) ⊎ ((f : LitmusFault) × (litmus_of lines ≡ Err f) × (fault ≡ Why.Text f))
