use Rattle.std.proofs.Common.{◌≡◌}
use Rattle.core_steps.specs.State.{world}
use Rattle.driven.specs.Telling.{StepsTell}
use Rattle.driven.proofs.telling.go_telling.Given as goal

-- the steps so far
abbrev pub invariant-steps : goal.invariant-steps
invariant-steps g l = record {
  tells : StepsTell (world g.M.SlotRead.slots l.initial.machine.engine) l.core l._step l.told (world g.M.SlotRead.slots l.machine.engine);
  made : (world g.M.SlotRead.slots l.machine.engine).made ≡ (world g.M.SlotRead.slots l.initial.machine.engine).made;
}
