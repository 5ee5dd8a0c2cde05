use Rattle.core_steps.specs.State.{world}
use Rattle.driven.specs.Reclaiming.{CountsSome}
use Rattle.driven.proofs.reclaiming.make_round.Given as goal

abbrev pub invariant-flushing : goal.invariant-flushing
invariant-flushing g l = CountsSome (world g.M.SlotRead.slots l.fn.machine.engine) (world g.M.SlotRead.slots l.machine.engine)

abbrev pub invariant-reviewing : goal.invariant-reviewing
invariant-reviewing g l = CountsSome (world g.M.SlotRead.slots l.fn.machine.engine) (world g.M.SlotRead.slots l.machine.engine)
