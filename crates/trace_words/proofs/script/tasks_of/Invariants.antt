use Rattle.std.proofs.Common.{◌≡◌, take}
use Rattle.trace_words.specs.Scripts.{tasks_of}
use Rattle.trace_words.proofs.script.tasks_of.Given as goal

-- the tasks of the lines so far
abbrev pub invariant-lines : goal.invariant-lines
invariant-lines g l = l.tasks.items ≡ tasks_of l.fn.core (take l.at l.fn.lines)
