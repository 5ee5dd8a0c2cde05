-- What notes and their declaration are written as.
use Rattle.std.specs.Prelude.{ℕ, List, ◌++◌, codes, decimal}
use Rattle.std.specs.List.{flat_map}
use Rattle.seats.specs.declared.noted.Noted.{Noted}
use Rattle.trace_words.specs.Declarations.{DeclarationView}
use Rattle.trace_words.specs.OutcomeText.{outcome_text}
use Rattle.trace_words.specs.Written.{declared_text, event_words, spaced}

-- what stands before the outcome
abbrev pub note_head : Noted → List ℕ
note_head note = decimal note.ticket ++ spaced (event_words note.event) ++ codes " = "

-- `TICKET EVENT = OUTCOME`
abbrev pub note_text : Noted → List ℕ
note_text note = note_head note ++ outcome_text note.outcome

-- those, and a line of each note
abbrev pub notes_text : DeclarationView → List Noted → List ℕ
notes_text asked notes = declared_text asked ++ flat_map note_text notes
