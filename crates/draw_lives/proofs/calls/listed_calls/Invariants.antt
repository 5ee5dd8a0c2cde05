use Rattle.std.proofs.Common.{◌≡◌, ◌++◌, length}
use Rattle.trace_io.specs.Lines.{lines_of}
use Rattle.draw_lives.specs.Calls.{listed_calls}
use Rattle.draw_lives.proofs.calls.listed_calls.Given as goal

abbrev pub invariant-lines : goal.invariant-lines
invariant-lines l = l.calls.items ++ listed_calls (lines_of l.rest) ≡ listed_calls (lines_of l.text)

abbrev pub decreases-lines : goal.decreases-lines
decreases-lines l = length l.rest
