use Rattle.std.proofs.Common.{◌≡◌, map}
use Rattle.trace_words.specs.Scripts.{all_tasks}
use Rattle.trace_words.proofs.script.all_tasks.Given as goal

-- the tasks of the cores so far
abbrev pub invariant-cores : goal.invariant-cores
invariant-cores g l = map (λ tasks. tasks.items) l.all.items ≡ all_tasks l.core l.fn.lines
