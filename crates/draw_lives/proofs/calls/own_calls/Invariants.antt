use Rattle.std.proofs.Common.{◌≡◌, ◌≤◌, ◌+◌, ◌++◌, length}
use Rattle.trace_io.specs.Lines.{lines_of}
use Rattle.draw_lives.specs.Calls.{own_from}
use Rattle.draw_lives.proofs.calls.own_calls.Given as goal

abbrev pub invariant-lines : goal.invariant-lines
invariant-lines l = record {
  calls : l.calls.items ++ own_from l.number (lines_of l.rest) ≡ own_from 1 (lines_of l.text);
  fits : l.number + length l.rest ≤ length l.text + 1;
}

abbrev pub decreases-lines : goal.decreases-lines
decreases-lines l = length l.rest
