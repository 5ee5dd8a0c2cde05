use Rattle.core_steps.specs.State.{world}
use Rattle.driven.specs.Reclaiming.{CountsSome}
use Rattle.driven.proofs.reclaiming.flush_core.Given as goal

abbrev pub invariant-flushes : goal.invariant-flushes
invariant-flushes g l = CountsSome (world g.M.SlotRead.slots l.fn.machine.engine) (world g.M.SlotRead.slots l.machine.engine)
