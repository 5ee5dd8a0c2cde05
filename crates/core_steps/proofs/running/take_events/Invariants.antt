use Rattle.machine_model.proofs.Words.{◌≡◌, length, ◌≤◌, take, vec_len, vec_capacity, Run}
use Rattle.core_steps.specs.State.{world}
use Rattle.core_steps.specs.Running.{RunsAsMap}
use Rattle.core_steps.proofs.running.take_events.Given as goal

-- the run so far, and room for the outcomes to come
abbrev pub invariant-events : goal.invariant-events
invariant-events g l = record {
  run : Run (world g.M.SlotRead.slots l.fn.machine.engine) (take l.at l.events) l.outcomes.items (world g.M.SlotRead.slots l.machine.engine);
  as_map : RunsAsMap g.M.SlotMap.parts g.M.SlotMap.can_fold g.M.SlotMap.folds (world g.M.SlotRead.slots l.fn.machine.engine)
      (take l.at l.events) l.outcomes.items (world g.M.SlotRead.slots l.machine.engine);
  room : length l.events ≤ vec_capacity l.outcomes;
  count : vec_len l.outcomes ≡ l.at;
}
