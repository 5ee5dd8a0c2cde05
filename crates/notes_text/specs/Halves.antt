-- What a line of notes says: what stands before its sign, and behind it.
use Rattle.std.specs.Prelude.{List, Option, Some}
use Rattle.machine_model.specs.declared.event.Event.{Event}
use Rattle.seats.specs.Notes.{noted}
use Rattle.seats.specs.declared.noted.Noted.{Noted}
use Rattle.trace_text.specs.Words.{Word}
use Rattle.trace_text.specs.Request.{◌>>=◌, front_number}
use Rattle.trace_text.specs.Line.{line_of_words}
use Rattle.notes_text.specs.Grammar.{event_said}
use Rattle.notes_text.specs.Outcomes.{outcome_of}

-- the one event that the words ask for
unfoldable pub event_named : List Word → Option Event
event_named words = do
  line ← line_of_words words
  event_said line

-- the note whose ticket and event stand before the sign, and its outcome behind it
unfoldable pub note_of : List Word → List Word → Option Noted
note_of front behind = do
  ticket ← front_number front
  event ← event_named ticket.1
  outcome ← outcome_of behind
  Some (noted ticket.0 event outcome)
