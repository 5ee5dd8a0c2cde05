-- What is written of a script is read as the notes.
use Rattle.std.specs.Prelude.{ℕ, List}
use Rattle.trace_words.specs.Scripts.{ReadWhole, Scripted}
use Rattle.notes_text.specs.TextLaws.{SaysNotes}
use Rattle.live_script.specs.Texts.{IsNotesText}

-- The text that is written of a script that was read declares what the script declares, and its lines name just the notes of
-- the seats, in order of their tickets.
abbrev pub TextsAreReadBack : Type 0
TextsAreReadBack = (input text : List ℕ) (script : Scripted) → ReadWhole input script → (written : IsNotesText script text)
    → SaysNotes text script.asked written.order
