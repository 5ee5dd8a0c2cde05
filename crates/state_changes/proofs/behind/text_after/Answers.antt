use Rattle.std.proofs.Common.{arith}
use Rattle.state_changes.proofs.Walking.{change_more}
use Rattle.state_changes.proofs.behind.text_after.Goals as goal

pub moments-preserved : goal.moments-preserved
moments-preserved c = record {
  within = omega (arith, c.moments-test.true);
  same = change_more _ _ c.index-moments-at.result _ _ _ _ _ c.moments-test.true c.index-moments-at.is c.change.ensures c.as_slice.ensures.value
      c.in_ok-after.ensures c.moments.invariant.same;
}
