use Rattle.std.proofs.Common.{◌≡◌, length}
use Rattle.trace_io.specs.Lines.{lines_of}
use Rattle.draw_steps.specs.Names.{name_from, name_of}
use Rattle.draw_steps.proofs.names.name_of.Given as goal

abbrev pub invariant-lines : goal.invariant-lines
invariant-lines l = name_from l.number l.before (lines_of l.rest) ≡ name_of l.text l.number

abbrev pub decreases-lines : goal.decreases-lines
decreases-lines l = length l.rest
