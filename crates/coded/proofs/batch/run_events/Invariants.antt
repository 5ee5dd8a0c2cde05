use Rattle.std.proofs.Common.{◌≡◌, length}
use Rattle.core_steps.specs.State.{world}
use Rattle.coded.specs.Batches.{RunsFirst}
use Rattle.coded.proofs.batch.run_events.Given as goal

-- the events so far
abbrev pub invariant-events : goal.invariant-events
invariant-events g l = record {
  runs : RunsFirst (world g.M.SlotRead.slots l.initial.machine.engine) l.raws l.at l.initial.told l.told (world g.M.SlotRead.slots l.machine.engine);
  room : length l.told ≡ length l.initial.told;
}
