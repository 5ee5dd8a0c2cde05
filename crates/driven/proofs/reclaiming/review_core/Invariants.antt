use Rattle.core_steps.specs.State.{world}
use Rattle.driven.specs.Reclaiming.{CountsSome}
use Rattle.driven.proofs.reclaiming.review_core.Given as goal

abbrev pub invariant-reviews : goal.invariant-reviews
invariant-reviews g l = CountsSome (world g.M.SlotRead.slots l.fn.machine.engine) (world g.M.SlotRead.slots l.machine.engine)
