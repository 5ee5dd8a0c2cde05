use Rattle.std.proofs.Common.{take}
use Rattle.live_space.specs.Space.{IsOf}
use Rattle.live_script.specs.Tasks.{DoesAll}
use Rattle.live_script.proofs.tasks.run_tasks.Given as goal

-- the tasks so far were done
abbrev pub invariant-tasks : goal.invariant-tasks
invariant-tasks g l = record {
  own : IsOf l.live l.seat;
  does : DoesAll l.live l.initial.seat (take l.at l.fn.tasks) l.seat;
}
