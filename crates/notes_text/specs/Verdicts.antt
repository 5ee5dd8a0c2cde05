-- What certifying the notes of a text comes to, and the line that tells it
use Rattle.std.specs.Prelude.{◌≡◌, ℕ, ◌-◌, Bool, true, false, List, [], ◌++◌, codes, decimal, length, take}
use Rattle.vm_base.specs.declared.page.PageRange.{PageRange}
use Rattle.slot_lock.specs.Slots.{Slots}
use Rattle.machine_model.specs.declared.event.Outcome.{Outcome}
use Rattle.machine_model.specs.declared.setup.Setup.{Setup}
use Rattle.machine_model.specs.Setups.{made_of}
use Rattle.seats.specs.declared.noted.Noted.{Noted}
use Rattle.certifier.specs.Order.{AreNumbered, IsFirstAmiss}
use Rattle.certifier.specs.Following.{IsCertified, DiffersAt}
use Rattle.trace_words.specs.Declarations.{DeclarationView, made_by}
use Rattle.trace_words.specs.OutcomeText.{outcome_text}
use Rattle.notes_text.specs.declared.verdict.NotesVerdict.{NotesVerdict}
use Rattle.notes_text.specs.declared.verdict.NotesVerdict.TheVariants.{Certified, Ticket, Differs, Slot}

-- ---- what it comes to

-- a setup of what is asked for
pub record Made (A : Type 0) (asked : DeclarationView) : Type 0 where
  pub setup : Setup A
  pub made : made_of setup ≡ made_by asked

-- The notes are certified, one ticket doesn't stand once, or one outcome differs, as certifying says. Beside no histories no
-- slot is found.
abbrev pub Judges : Type 0 → (PageRange → ℕ → ℕ → Bool) → (Slots → ℕ → Type 0) → (Slots → Slots → ℕ → Type 0)
    → DeclarationView → List Noted → NotesVerdict → Type 0
Judges A parts CanFold Folds asked notes (Certified calls) =
    (m : Made A asked) × IsCertified parts CanFold Folds m.setup notes [] calls
Judges A parts CanFold Folds asked notes (Ticket t) = IsFirstAmiss notes t
Judges A parts CanFold Folds asked notes (Differs t noted expected) =
    (m : Made A asked) × AreNumbered notes × DiffersAt parts CanFold Folds m.setup notes t noted expected
Judges A parts CanFold Folds asked notes (Slot page) = ⊥

-- ---- its line

-- a line without its newline
abbrev pub unended : List ℕ → List ℕ
unended line = take (length line - 1) line

abbrev pub differs_head : ℕ → List ℕ
differs_head ticket = codes "refused C2 " ++ decimal ticket ++ codes ": noted "

abbrev pub differs_text : ℕ → Outcome → Outcome → List ℕ
differs_text ticket noted expected =
    differs_head ticket ++ unended (outcome_text noted) ++ (codes ", expected " ++ outcome_text expected)

abbrev pub verdict_text : NotesVerdict → List ℕ
verdict_text (Certified calls) = codes "certified " ++ decimal calls ++ codes "\n"
verdict_text (Ticket ticket) = codes "refused C1 " ++ decimal ticket ++ codes "\n"
verdict_text (Differs ticket noted expected) = differs_text ticket noted expected
verdict_text (Slot page) = codes "refused C5 " ++ decimal page ++ codes "\n"

-- the notes are a run of the machine
abbrev pub is_certified : NotesVerdict → Bool
is_certified (Certified calls) = true
is_certified (Ticket t) = false
is_certified (Differs t noted expected) = false
is_certified (Slot page) = false
