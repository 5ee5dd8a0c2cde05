use Rattle.std.proofs.Common.{◌≡◌, length}
use Rattle.trace_io.specs.Lines.{lines_of}
use Rattle.litmus_text.specs.Kinds.{has_together}
use Rattle.litmus_text.proofs.kinds.has_together.Given as goal

-- if it is there it is among the lines that are left
abbrev pub invariant-lines : goal.invariant-lines
invariant-lines l = has_together (lines_of l.rest) ≡ has_together (lines_of l.text)

abbrev pub decreases-lines : goal.decreases-lines
decreases-lines l = length l.rest
