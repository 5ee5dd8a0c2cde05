use Rattle.std.proofs.Common.{◌≡◌, ◌+◌, ◌^◌, ◌<◌, ◌≤◌, length}
use Rattle.trace_io.specs.Lines.{lines_of}
use Rattle.litmus_report.specs.Counts.{bad_line}
use Rattle.litmus_report.proofs.counting.bad_count.Given as goal

-- the first bad line is among those that are left
abbrev pub invariant-lines : goal.invariant-lines
invariant-lines l = record {
  leads : bad_line (l.number + 1) (lines_of l.rest) ≡ bad_line 1 (lines_of l.counts);
  most : length l.counts < 2 ^ 64;
  room : l.number + length l.rest ≤ length l.counts;
}

abbrev pub decreases-lines : goal.decreases-lines
decreases-lines l = length l.rest
