use Rattle.std.proofs.Common.{◌≡◌, ◌≤◌}
use Rattle.core_steps.specs.State.{world}
use Rattle.shared.specs.Calling.{CalmBelow}
use Rattle.shared.proofs.machine.MachineWhole.is_calm.Given as goal

abbrev pub invariant-all : goal.invariant-all
invariant-all g l = record {
  below : CalmBelow (world g.M.SlotRead.slots l.self.engine) l.index;
  few : l.count ≤ 64;
  is : l.count ≡ (world g.M.SlotRead.slots l.self.engine).made.cores;
}
