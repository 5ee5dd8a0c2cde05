use Rattle.word_pictures.proofs.NoNotes.{no_note}
use Rattle.word_pictures.proofs.traced.no_line_is_a_note.Goals as goal

pub returns : goal.returns
returns c line h = no_note line h
