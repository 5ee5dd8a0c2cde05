-- What is read of notes, against their grammar
use Rattle.std.specs.Prelude.{◌≡◌, ℕ, List, Some}
use Rattle.machine_model.specs.declared.event.Outcome.{Outcome}
use Rattle.seats.specs.declared.noted.Noted.{Noted}
use Rattle.trace_text.specs.Words.{Word, words_of}
use Rattle.notes_text.specs.Outcomes.{outcome_of}
use Rattle.notes_text.specs.Grammar.{NamesOutcome, NamesNote}

-- words that name an outcome are read as it, and those that are read as one name it
abbrev pub ReadsAllOutcomes : Type 0
ReadsAllOutcomes = (outcome : Outcome) (words : List Word) → NamesOutcome outcome words → outcome_of words ≡ Some outcome

abbrev pub ReadsOnlyOutcomes : Type 0
ReadsOnlyOutcomes = (outcome : Outcome) (words : List Word) → outcome_of words ≡ Some outcome → NamesOutcome outcome words

-- a line that names a note names no other
abbrev pub NotesAreOne : Type 0
NotesAreOne =
    (a b : Noted) (line : List ℕ) → NamesNote a (words_of line) → NamesNote b (words_of line) → a ≡ b
