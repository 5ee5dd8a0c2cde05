use Rattle.std.proofs.Common.{◌≡◌, length, map}
use Rattle.trace_io.specs.Lines.{lines_of}
use Rattle.litmus_report.specs.Counts.{bytes_of, has_outside}
use Rattle.litmus_report.proofs.counting.has_outside.Given as goal

-- if there is one it is among the lines that are left
abbrev pub invariant-lines : goal.invariant-lines
invariant-lines g l = has_outside (map bytes_of l.texts) (lines_of l.rest) ≡ has_outside (map bytes_of l.texts) (lines_of l.counts)

abbrev pub decreases-lines : goal.decreases-lines
decreases-lines g l = length l.rest
