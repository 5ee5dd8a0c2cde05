use Rattle.litmus_outcomes.proofs.Lines.{Opens}
use Rattle.litmus_outcomes.proofs.opening.give_lines.Given as goal

abbrev pub invariant-lines : goal.invariant-lines
invariant-lines g l = Opens l.lines l.k l.events.items
