-- What is written of notes is read as them, all of the text, and it says nothing else.
use Rattle.std.specs.Prelude.{◌≡◌, ℕ, ◌≤◌, ◌⊎◌, true, false, List, None, length}
use Rattle.std.specs.List.{AllByRecursion}
use Rattle.machine_model.specs.declared.event.Blocker.{Blocker}
use Rattle.machine_model.specs.declared.event.Event.TheVariants.{Go}
use Rattle.machine_model.specs.declared.event.Outcome.TheVariants.{Wait}
use Rattle.seats.specs.declared.noted.Noted.{Noted}
use Rattle.trace_text.specs.Words.{Word}
use Rattle.trace_words.specs.declared.fault.TraceFault.{TraceFault}
use Rattle.trace_words.specs.declared.fault.TraceFault.TheVariants.{NoMemory, ReadFailed}
use Rattle.trace_words.specs.Declarations.{DeclarationView, asked_fault}
use Rattle.notes_text.specs.Grammar.{NamesNote}
use Rattle.trace_words.specs.Ends.{Collects, Stops}
use Rattle.trace_words.specs.Scripts.{NamesTask}
use Rattle.trace_words.specs.declared.script.ScriptLine.{ScriptLine}
use Rattle.notes_text.specs.NotesWritten.{note_text, notes_text}
use Rattle.notes_text.specs.WrittenLaws.{FitsNote}

-- the lines of the text declare this, and name these notes, in their order
abbrev pub SaysNotes : List ℕ → DeclarationView → List Noted → Type 0
SaysNotes text asked notes = Collects true (λ cores note words. NamesNote note words) text asked notes

-- ---- what can be written

-- A space can be made of what is declared. All its files are there, and the first byte of each is a byte.
pub record IsDeclared (asked : DeclarationView) : Type 0 where
  pub sound : asked_fault asked ≡ None
  pub files : asked.next ≡ length asked.files
  pub bytes : AllByRecursion (λ file. file.seed ≤ 255) asked.files

-- the note's line is no longer than a line may be, its newline besides
pub record FitsLine (note : Noted) : Type 0 where
  pub fits : FitsNote note
  pub short : length (note_text note) ≤ 257

-- ---- the laws

-- What is written of notes says what was declared, and each of them.
abbrev pub WrittenIsSaid : Type 0
WrittenIsSaid = (asked : DeclarationView) (notes : List Noted) → IsDeclared asked → AllByRecursion FitsLine notes
    → SaysNotes (notes_text asked notes) asked notes

-- No text says two declarations, or two lists of notes.
abbrev pub SaysOne : Type 0
SaysOne = (text : List ℕ) (asked other : DeclarationView) (notes others : List Noted) → SaysNotes text asked notes → SaysNotes text other others
    → (asked ≡ other) × (notes ≡ others)

-- Reading a text that says notes fails at no line: a read fails, or memory is wanting.
abbrev pub SaidIsNotRefused : Type 0
SaidIsNotRefused = (text unread : List ℕ) (asked : DeclarationView) (notes : List Noted) (f : TraceFault) → SaysNotes text asked notes
    → Stops true (λ (cores : ℕ) (note : Noted) words. NamesNote note words) text unread f → (f ≡ ReadFailed) ⊎ (f ≡ NoMemory)

-- ---- what fits

-- What a line names fits, so that it can be written.
abbrev pub NamedFits : Type 0
NamedFits = (note : Noted) (words : List Word) → NamesNote note words → FitsNote note

-- So does what the lines of notes or of a script declare.
abbrev pub NotesDeclare : Type 0
NotesDeclare = (text : List ℕ) (asked : DeclarationView) (notes : List Noted) → SaysNotes text asked notes → IsDeclared asked

abbrev pub ScriptsDeclare : Type 0
ScriptsDeclare = (text : List ℕ) (asked : DeclarationView) (lines : List ScriptLine) → Collects false NamesTask text asked lines → IsDeclared asked

-- only an event that goes on with a call has waited
abbrev pub WaitsGoing : Noted → Type 0
WaitsGoing note = (blocker : Blocker) → note.outcome ≡ Wait blocker → (core : ℕ) × (note.event ≡ Go core)

-- Then the line that is written is short enough to be read.
abbrev pub LinesAreShort : Type 0
LinesAreShort = (note : Noted) → FitsNote note → WaitsGoing note → FitsLine note
