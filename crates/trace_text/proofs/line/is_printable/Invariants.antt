use Rattle.std.proofs.Common.{◌≡◌, take}
use Rattle.trace_text.specs.Line.{are_printable}
use Rattle.trace_text.proofs.line.is_printable.Given as goal

abbrev pub invariant-loop-b : goal.invariant-loop-b
invariant-loop-b l = l.printable ≡ are_printable (take l.b-index l.bytes)
