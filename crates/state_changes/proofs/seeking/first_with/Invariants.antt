use Rattle.std.proofs.Common.{◌+◌, ◌≤◌, length}
use Rattle.trace_io.specs.Lines.{lines_of}
use Rattle.state_changes.proofs.FirstText.{Seek}
use Rattle.state_changes.proofs.seeking.first_with.Given as goal

abbrev pub invariant-lines : goal.invariant-lines
invariant-lines l = record {
  seek : Seek l.words (lines_of l.trace) l.recorder.moments l.recorder.first l.lines (lines_of l.rest) l.left l.text.items;
  fits : l.lines + length l.rest ≤ length l.trace;
}

abbrev pub decreases-lines : goal.decreases-lines
decreases-lines l = length l.rest
