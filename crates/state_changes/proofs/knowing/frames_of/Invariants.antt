use Rattle.std.proofs.Common.{◌≡◌, ◌++◌, length}
use Rattle.trace_io.specs.Lines.{lines_of}
use Rattle.state_changes.specs.Knowing.{frames_of}
use Rattle.state_changes.proofs.knowing.frames_of.Given as goal

abbrev pub invariant-lines : goal.invariant-lines
invariant-lines l = l.frames.items ++ frames_of l.addr (lines_of l.rest) ≡ frames_of l.addr (lines_of l.state)

abbrev pub decreases-lines : goal.decreases-lines
decreases-lines l = length l.rest
