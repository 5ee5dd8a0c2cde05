use Rattle.core_steps.specs.State.{world}
use Rattle.driven.proofs.Returned.{CountsAtLeast}
use Rattle.driven.proofs.reclaiming.bring_back.Given as goal

-- each round so far took some event
abbrev pub invariant-rounds : goal.invariant-rounds
invariant-rounds g l = CountsAtLeast (world g.M.SlotRead.slots l.fn.machine.engine) l._round (world g.M.SlotRead.slots l.machine.engine)
