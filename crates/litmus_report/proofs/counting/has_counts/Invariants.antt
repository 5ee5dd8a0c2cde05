use Rattle.std.proofs.Common.{◌≡◌, length}
use Rattle.trace_io.specs.Lines.{lines_of}
use Rattle.litmus_report.specs.Counts.{has_counts}
use Rattle.litmus_report.proofs.counting.has_counts.Given as goal

-- if there is one it is among the lines that are left
abbrev pub invariant-lines : goal.invariant-lines
invariant-lines l = has_counts (lines_of l.rest) ≡ has_counts (lines_of l.counts)

abbrev pub decreases-lines : goal.decreases-lines
decreases-lines l = length l.rest
