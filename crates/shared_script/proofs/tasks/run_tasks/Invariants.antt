use Rattle.std.proofs.Common.{◌≡◌, take}
use Rattle.shared_script.specs.Tasks.{DoesTasks, IsMade, calls_of}
use Rattle.shared_script.proofs.tasks.run_tasks.Given as goal

-- the tasks so far were done
abbrev pub invariant-tasks : goal.invariant-tasks
invariant-tasks g l = record {
  here : l.core.space ≡ l.space.table.shared.table_id;
  did : DoesTasks g.S.Whole.state l.initial.core (take l.at l.fn.tasks) l.core;
  made : IsMade l.initial.core l.initial.told.items (calls_of (take l.at l.fn.tasks)) l.core l.told.items;
}
