use Rattle.std.proofs.lemmas.Result.{err_from_is_err_and}
use Rattle.live_script.proofs.TaskLemmas.{does_next, stops_next}
use Rattle.live_script.proofs.tasks.run_tasks.Goals as goal

pub tasks-preserved : goal.tasks-preserved
tasks-preserved g c = record {
  own = c.in_ok-run_task.ensures.own;
  does = does_next c.args.live.now _ _ _ _ _ _ c.tasks-test.true c.tasks.invariant.does c.in_ok-run_task.ensures.done;
}

pub returns-in_err-run_task-clause-stops : goal.returns-in_err-run_task-clause-stops
returns-in_err-run_task-clause-stops g c =
    let p = err_from_is_err_and c.from_residual.result c.from_residual.ensures.1 in
    rw p.1 (rw p.2 (stops_next c.args.live.now _ _ _ _ _ _ c.tasks-test.true c.tasks.invariant.does _ c.in_err-run_task.ensures.fault c.in_err-run_task.ensures.idle))
