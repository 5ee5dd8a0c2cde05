use Rattle.std.proofs.lemmas.Result.{err_from_is_err_and}
use Rattle.std.proofs.Common.{◌∙◌}
use Rattle.shared_script.proofs.TaskLemmas.{next_did, next_made, next_stops}
use Rattle.shared_script.proofs.tasks.run_tasks.Goals as goal

pub tasks-preserved : goal.tasks-preserved
tasks-preserved g c = record {
  here = c.in_ok-run_task.ensures.here ∙ c.tasks.invariant.here;
  did = next_did g.S.Whole.state _ _ c.run_task.new.core _ _ _ _ _ c.tasks-test.true c.tasks.invariant.made c.tasks.invariant.did c.in_ok-run_task.ensures.did;
  made = next_made _ _ _ _ _ _ _ _ _ c.tasks-test.true c.tasks.invariant.made c.in_ok-run_task.ensures.made;
}

pub returns-in_err-run_task-clause-stops : goal.returns-in_err-run_task-clause-stops
returns-in_err-run_task-clause-stops g c =
    let p = err_from_is_err_and c.from_residual.result c.from_residual.ensures.1 in
    rw p.1 (rw p.2 (next_stops g.S.Whole.state _ _ _ _ _ _ _ _ c.tasks-test.true c.tasks.invariant.made c.tasks.invariant.did
    c.in_err-run_task.ensures.stops))
