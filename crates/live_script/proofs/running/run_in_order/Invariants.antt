use Rattle.live_script.proofs.TurnLemmas.{EndTo}
use Rattle.live_script.proofs.running.run_in_order.Given as goal

-- the first lanes are done, and the others are as before
abbrev pub invariant-cores : goal.invariant-cores
invariant-cores g l = EndTo l.fn.live l.fn.script.tasks l.initial.lanes l.lanes l.core
