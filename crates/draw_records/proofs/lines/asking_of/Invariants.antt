use Rattle.std.proofs.Common.{◌≡◌, ◌++◌, length}
use Rattle.trace_io.specs.Lines.{lines_of}
use Rattle.draw_records.specs.Lines.{asking_from}
use Rattle.draw_records.proofs.lines.asking_of.Given as goal

abbrev pub invariant-lines : goal.invariant-lines
invariant-lines g l = record { made : l.all.items ++ asking_from l.number (lines_of l.rest) ≡ asking_from 1 (lines_of l.text) }

abbrev pub decreases-lines : goal.decreases-lines
decreases-lines g l = length l.rest
