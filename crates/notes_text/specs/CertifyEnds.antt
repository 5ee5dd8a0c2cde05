-- How certifying a text of notes ends
use Rattle.std.specs.Prelude.{◌≡◌, ℕ, ◌⊎◌, Bool, true, List, [], Option, Result, Ok, Err}
use Rattle.std.specs.Io.KnownBytes.{Keeps, Appends}
use Rattle.vm_base.specs.declared.page.PageRange.{PageRange}
use Rattle.slot_lock.specs.Slots.{Slots}
use Rattle.seats.specs.declared.noted.Noted.{Noted}
use Rattle.trace_io.specs.Sink.{AppendsFront}
use Rattle.trace_words.specs.declared.fault.TraceFault.{TraceFault}
use Rattle.trace_words.specs.declared.fault.TraceFault.TheVariants.{NoMemory, WriteFailed}
use Rattle.trace_words.specs.Declarations.{DeclarationView}
use Rattle.notes_text.specs.Grammar.{NamesNote}
use Rattle.trace_words.specs.Ends.{Collects, Stops}
use Rattle.notes_text.specs.Verdicts.{Judges, verdict_text, is_certified}
use Rattle.notes_text.specs.declared.verdict.NotesVerdict.{NotesVerdict}

-- ---- the verdict

-- all lines were read, and this is what certifying their notes comes to
pub record Judged (A : Type 0) (parts : PageRange → ℕ → ℕ → Bool) (CanFold : Slots → ℕ → Type 0)
    (Folds : Slots → Slots → ℕ → Type 0) (input : List ℕ) (verdict : NotesVerdict) : Type 0 where
  pub asked : DeclarationView
  pub notes : List Noted
  pub collects : Collects true (λ cores note words. NamesNote note words) input asked notes
  pub judges : Judges A parts CanFold Folds asked notes verdict

-- why there is none: the text wasn't read whole, or it was, and memory for certifying was wanting
pub data Unjudged (input unread : List ℕ) (f : TraceFault) : Type 0 where
  unread_text : Stops true (λ (cores : ℕ) (note : Noted) words. NamesNote note words) input unread f → Unjudged input unread f
  unmade : f ≡ NoMemory → unread ≡ input → Unjudged input unread f
  wanting : f ≡ NoMemory → (asked : DeclarationView) (notes : List Noted)
      → Collects true (λ cores note words. NamesNote note words) input asked notes → Unjudged input unread f

-- how the judging of a text ends: a verdict, or a fault of the text
abbrev pub FindsVerdict : Type 0 → (PageRange → ℕ → ℕ → Bool) → (Slots → ℕ → Type 0)
    → (Slots → Slots → ℕ → Type 0) → List ℕ → List ℕ → Result NotesVerdict TraceFault → Type 0
FindsVerdict A parts CanFold Folds input unread (Ok verdict) = Judged A parts CanFold Folds input verdict
FindsVerdict A parts CanFold Folds input unread (Err f) = Unjudged input unread f

-- ---- and its line

-- the line was written, and its notes are certified or refused
pub record Tells (A : Type 0) (parts : PageRange → ℕ → ℕ → Bool) (CanFold : Slots → ℕ → Type 0)
    (Folds : Slots → Slots → ℕ → Type 0) (input : List ℕ) (old new : Option (List ℕ)) (told : Bool) : Type 0 where
  pub verdict : NotesVerdict
  pub judged : Judged A parts CanFold Folds input verdict
  pub says : told ≡ is_certified verdict
  pub appends : Appends old new (verdict_text verdict)

-- After a failed write or flush a front of a verdict's line has gone out, or nothing; after another fault
-- nothing has.
abbrev pub Certifies : Type 0 → (PageRange → ℕ → ℕ → Bool) → (Slots → ℕ → Type 0) → (Slots → Slots → ℕ → Type 0)
    → List ℕ → List ℕ → Option (List ℕ) → Option (List ℕ) → Result Bool TraceFault → Type 0
Certifies A parts CanFold Folds input unread old new (Ok told) = Tells A parts CanFold Folds input old new told
Certifies A parts CanFold Folds input unread old new (Err f) = (Unjudged input unread f × Keeps old new)
    ⊎ ((f ≡ WriteFailed) × (((verdict : NotesVerdict) × Judged A parts CanFold Folds input verdict
    × AppendsFront old new (verdict_text verdict)) ⊎ Keeps old new))
