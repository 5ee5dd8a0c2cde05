use Rattle.std.proofs.Common.{length}
use Rattle.trace_io.specs.Lines.{lines_of}
use Rattle.import_lines.specs.Reading.{HearsLines}
use Rattle.import_lines.proofs.reading.hear_text.Given as goal

abbrev pub invariant-lines : goal.invariant-lines
invariant-lines g l = record { heard : HearsLines g.L.Listener.has_heard l.initial.listener l.listener (lines_of l.text) (lines_of l.rest) }

abbrev pub decreases-lines : goal.decreases-lines
decreases-lines g l = length l.rest
