use Rattle.machine_model.proofs.Words.{◌-◌, ◌≤◌, ◌^◌, World, StepsTo}
use Rattle.core_steps.specs.Dividing.{StepsAsMap}
use Rattle.core_steps.specs.State.{world}
use Rattle.core_steps.proofs.machine.Machine.go_on.Given as goal

-- the steps so far, with those before
abbrev pub invariant-steps : goal.invariant-steps
invariant-steps g l = record {
  few : l.n ≤ 2 ^ 40;
  made : (was : World) → StepsTo was l.core l.steps (world g.M.SlotRead.slots l.initial.self.engine)
      → StepsTo was l.core l.n (world g.M.SlotRead.slots l.self.engine);
  divided : (was : World) → StepsAsMap g.M.SlotMap.parts was l.core l.steps (world g.M.SlotRead.slots l.initial.self.engine)
      → StepsAsMap g.M.SlotMap.parts was l.core l.n (world g.M.SlotRead.slots l.self.engine);
}

abbrev pub decreases-steps : goal.decreases-steps
decreases-steps g l = 2 ^ 40 - l.n
