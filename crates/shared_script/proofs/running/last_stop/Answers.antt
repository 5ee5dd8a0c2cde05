use Rattle.shared_script.proofs.LaneLemmas.{stop_found, stop_next, stop_none}
use Rattle.shared_script.proofs.running.last_stop.Goals.{in-Some, in_default}
use Rattle.shared_script.proofs.running.last_stop.Goals as goal

pub lanes-preserved : goal.lanes-preserved
lanes-preserved g c = elim c.match-lanes-at.branch [
  | in-Some w ↦ stop_next _ _ _ _ _ c.lanes-test.true c.lanes.invariant (stop_found _ _ _ _ w.last-is w.in-Some.is)
  | in_default w ↦ stop_next _ _ _ _ _ c.lanes-test.true c.lanes.invariant (stop_none _ _ _ w.last-is w.in_default.is)
]
