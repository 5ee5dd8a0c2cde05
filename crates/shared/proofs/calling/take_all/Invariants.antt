use Rattle.core_steps.specs.State.{world}
use Rattle.shared.specs.Calling.{HaltsTo, LeavesHalted}
use Rattle.shared.proofs.calling.take_all.Given as goal

abbrev pub invariant-cores : goal.invariant-cores
invariant-cores g l = record {
  halts : LeavesHalted (HaltsTo l.awaited l.index) (world g.M.SlotRead.slots l.fn.machine.engine) l.core (world g.M.SlotRead.slots l.machine.engine);
}
