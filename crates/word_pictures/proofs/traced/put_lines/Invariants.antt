use Rattle.std.proofs.Common.{◌≡◌, ◌++◌, length}
use Rattle.std.specs.List.{flat_map}
use Rattle.trace_io.specs.Lines.{lines_of}
use Rattle.word_pictures.specs.Notes.{ended_line}
use Rattle.word_pictures.proofs.traced.put_lines.Given as goal

abbrev pub invariant-lines : goal.invariant-lines
invariant-lines g l = l.out.items ++ flat_map ended_line (lines_of l.rest) ≡ l.initial.out.items ++ flat_map ended_line (lines_of l.text)

abbrev pub decreases-lines : goal.decreases-lines
decreases-lines g l = length l.rest
