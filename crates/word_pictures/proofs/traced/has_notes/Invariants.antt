use Rattle.std.proofs.Common.{◌≡◌, length}
use Rattle.std.specs.List.{list_any}
use Rattle.trace_io.specs.Lines.{lines_of}
use Rattle.word_pictures.specs.Notes.{is_note}
use Rattle.word_pictures.proofs.traced.has_notes.Given as goal

abbrev pub invariant-lines : goal.invariant-lines
invariant-lines l = list_any is_note (lines_of l.rest) ≡ list_any is_note (lines_of l.text)

abbrev pub decreases-lines : goal.decreases-lines
decreases-lines l = length l.rest
