use Rattle.std.proofs.Common.{◌≡◌, ◌+◌, ◌≤◌, length}
use Rattle.trace_io.specs.Lines.{lines_of}
use Rattle.state_text.proofs.fronts.lines_in.Given as goal

abbrev pub invariant-lines : goal.invariant-lines
invariant-lines l = record {
  total : l.lines + length (lines_of l.rest) ≡ length (lines_of l.text);
  few : l.lines + length l.rest ≤ length l.text;
}

abbrev pub decreases-lines : goal.decreases-lines
decreases-lines l = length l.rest
