use Rattle.notes_text.proofs.NoteWritten.{writes_what_is_read}
use Rattle.notes_text.proofs.grammar.written_notes.Goals as goal

pub returns : goal.returns
returns c = writes_what_is_read
