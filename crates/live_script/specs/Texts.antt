-- What is written of the text of a script
use Rattle.std.specs.Prelude.{◌≡◌, ℕ, ◌⊎◌, Bool, List, map, Option, Result, Ok, Err}
use Rattle.std.specs.Io.KnownBytes.{Keeps, Appends}
use Rattle.std.specs.List.{AllByRecursion}
use Rattle.vm_base.specs.declared.page.PageRange.{PageRange}
use Rattle.slot_lock.specs.Slots.{Slots}
use Rattle.live_levels.specs.declared.close.SlotHistory.{SlotHistory}
use Rattle.live_tree.specs.Named.{BearWord}
use Rattle.live_tree.specs.declared.histories.Histories.{Histories}
use Rattle.seats.specs.Gathered.{AreWhole}
use Rattle.seats.specs.Notes.{SeatView}
use Rattle.seats.specs.declared.noted.Noted.{Noted}
use Rattle.certifier.specs.declared.result.Certified.{Certified as Done}
use Rattle.certifier.specs.declared.result.CertifyFault.{CertifyFault}
use Rattle.certifier.specs.declared.result.CertifyFault.TheVariants as By
use Rattle.live_space.specs.Space.{LiveView}
use Rattle.trace_io.specs.Sink.{AppendsFront}
use Rattle.trace_io.specs.Io.{ReadFrom, TellsSent, WrittenTo}
use Rattle.trace_words.specs.Declarations.{DeclarationView}
use Rattle.trace_words.specs.Faults.{fault_named}
use Rattle.trace_words.specs.declared.fault.TraceFault.{TraceFault}
use Rattle.trace_words.specs.declared.fault.TraceFault.TheVariants as Of
use Rattle.notes_text.specs.Ordered.{AreInOrder}
use Rattle.notes_text.specs.TextLaws.{FitsLine}
use Rattle.trace_words.specs.Scripts.{ReadWhole, Scripted, Unread}
use Rattle.notes_text.specs.Verdicts.{verdict_text}
use Rattle.notes_text.specs.NotesWritten.{notes_text}
use Rattle.notes_text.specs.declared.verdict.NotesVerdict.{NotesVerdict}
use Rattle.notes_text.specs.declared.verdict.NotesVerdict.TheVariants.{Certified, Ticket, Differs, Slot}
use Rattle.live_script.specs.Certified.{FailsRun, IsCertifiedRun, notes_in}
use Rattle.live_script.specs.Runs.{Fails, RunsAll}
use Rattle.live_script.specs.Sums.{sums_of}
use Rattle.live_script.specs.declared.sums.Sums.{Sums}
use Rattle.live_script.specs.declared.texts.RunVerdict.{RunVerdict}
use Rattle.live_script.specs.declared.fault.ScriptFault.{ScriptFault}
use Rattle.live_script.specs.declared.fault.ScriptFault.TheVariants.{Setup, Live, NoMemory}
use Rattle.live_script.specs.declared.texts.TextFault.{TextFault}
use Rattle.live_script.specs.declared.texts.TextFault.TheVariants as Told
use Rattle.live_script.specs.declared.texts.TextFault.TheVariants.{Text}

-- ---- what may be written of a script

-- it was run, and this is the text of what its seats noted, with the tickets below the number of all notes, each once, in their
-- order; each note is such as a line can have
pub record IsNotesText (script : Scripted) (text : List ℕ) : Type 0 where
  pub live : LiveView
  pub seats : List SeatView
  pub runs : RunsAll script live seats
  pub whole : AreWhole (map (λ s. s.notes) seats)
  pub order : List Noted
  pub in_order : AreInOrder (notes_in seats) order
  pub fits : AllByRecursion FitsLine order
  pub says : text ≡ notes_text script.asked order

-- the same, and these are the numbers of what its seats noted
pub record IsSummedText (script : Scripted) (told : Sums) (text : List ℕ) : Type 0 where
  pub notes : IsNotesText script text
  pub sums : told ≡ sums_of (notes_in notes.seats)

-- What certifying all notes of a space beside histories of slots comes to: that a ticket doesn't stand once, it never does.
abbrev pub JudgesRun : (A : Type 0) → (PageRange → ℕ → ℕ → Bool) → (Slots → ℕ → Type 0) → (Slots → Slots → ℕ → Type 0)
    → DeclarationView → List Noted → List (SlotHistory A) → NotesVerdict → Type 0
JudgesRun A parts CanFold Folds asked notes slots (Certified calls) = IsCertifiedRun A parts CanFold Folds asked notes slots calls
JudgesRun A parts CanFold Folds asked notes slots (Ticket t) = ⊥
JudgesRun A parts CanFold Folds asked notes slots (Differs t noted expected) =
    FailsRun A parts CanFold Folds asked notes slots (By.Differs t noted expected)
JudgesRun A parts CanFold Folds asked notes slots (Slot page) = FailsRun A parts CanFold Folds asked notes slots (By.Slot page)

-- the verdict that tells it; of want of memory none does
abbrev pub IsVerdictOf : Result Done CertifyFault → NotesVerdict → Type 0
IsVerdictOf (Ok done) verdict = verdict ≡ Certified done.calls
IsVerdictOf (Err (By.Differs t noted expected)) verdict = verdict ≡ Differs t noted expected
IsVerdictOf (Err (By.Slot page)) verdict = verdict ≡ Slot page
IsVerdictOf (Err fault) verdict = ⊥

-- the script was run, and this is what certifying what its seats noted beside the histories of all pages comes to, those of
-- the same space
pub record JudgedRun (A : Type 0) (parts : PageRange → ℕ → ℕ → Bool) (CanFold : Slots → ℕ → Type 0)
    (Folds : Slots → Slots → ℕ → Type 0) (script : Scripted) (verdict : NotesVerdict) : Type 0 where
  pub live : LiveView
  pub seats : List SeatView
  pub runs : RunsAll script live seats
  pub whole : AreWhole (map (λ s. s.notes) seats)
  pub histories : Histories A
  pub own : BearWord live.word histories
  pub judges : JudgesRun A parts CanFold Folds script.asked (notes_in seats) histories.slots.items verdict

-- the same, with the numbers of what its seats noted
pub record JudgedNotes (A : Type 0) (parts : PageRange → ℕ → ℕ → Bool) (CanFold : Slots → ℕ → Type 0)
    (Folds : Slots → Slots → ℕ → Type 0) (script : Scripted) (judgement : RunVerdict) : Type 0 where
  pub run : JudgedRun A parts CanFold Folds script judgement.verdict
  pub sums : judgement.sums ≡ sums_of (notes_in run.seats)

-- this is the line that tells it
pub record IsVerdictText (A : Type 0) (parts : PageRange → ℕ → ℕ → Bool) (CanFold : Slots → ℕ → Type 0)
    (Folds : Slots → Slots → ℕ → Type 0) (script : Scripted) (told : RunVerdict) (text : List ℕ) : Type 0 where
  pub judged : JudgedNotes A parts CanFold Folds script told
  pub says : text ≡ verdict_text told.verdict

-- ---- how it ends

-- as what a fault of running is told
abbrev pub fault_of_run : ScriptFault → TextFault
fault_of_run (Setup fault) = Text (Of.Setup fault)
fault_of_run (Live fault) = Told.Live fault
fault_of_run NoMemory = Text Of.NoMemory

-- Why what was to be written of a script wasn't: a task couldn't begin, there was no space or no memory, and then nothing was
-- written; or a write or a flush failed, and a front of it was.
pub data Ceases {T : Type 0} (Gives : Scripted → T → List ℕ → Type 0) (script : Scripted) (old new : Option (List ℕ))
    (f : TextFault) : Type 0 where
  unrun : (fault : ScriptFault) → Fails script fault → f ≡ fault_of_run fault → Keeps old new → Ceases Gives script old new f
  unwritten : f ≡ Text Of.WriteFailed → (x : T) (text : List ℕ) → Gives script x text → AppendsFront old new text
      → Ceases Gives script old new f

-- a text that may come of the script was written, or not
abbrev pub Yields : {T : Type 0} → (Scripted → T → List ℕ → Type 0) → Scripted → Option (List ℕ) → Option (List ℕ)
    → Result T TextFault → Type 0
Yields Gives script old new (Ok x) = (text : List ℕ) × Gives script x text × Appends old new text
Yields Gives script old new (Err f) = Ceases Gives script old new f

-- the same of a script that is to be read, of which nothing is written before all lines were read
abbrev pub EndsText : {T : Type 0} → (Scripted → T → List ℕ → Type 0) → List ℕ → List ℕ → Option (List ℕ) → Option (List ℕ)
    → Result T TextFault → Type 0
EndsText Gives input unread old new (Ok x) = (script : Scripted) × ReadWhole input script × Yields Gives script old new (Ok x)
EndsText Gives input unread old new (Err f) =
    ((fault : TraceFault) × (f ≡ Text fault) × Unread input unread fault × Keeps old new)
    ⊎ ((script : Scripted) × ReadWhole input script × Ceases Gives script old new f)

-- which failures of reading and writing are told
abbrev pub TellsText : {T : Type 0} → Result T TextFault → ReadFrom → WrittenTo → Type 0
TellsText r text sink = TellsSent (λ f. Text (fault_named f)) r text sink
