use Rattle.std.proofs.Common.{[], arith}
use Rattle.std.proofs.lemmas.Bool.Decides.{nat_tests}
use Rattle.state_changes.proofs.Marking.{other_than_none, passed_none, passed_new, passed_then}
use Rattle.state_changes.proofs.marks.put_all_come.Goals as goal

pub lines-init : goal.lines-init
lines-init c = record { passes = passed_none _ [] _ }

pub lines-preserved : goal.lines-preserved
lines-preserved c = record {
  passes = passed_then _ _ _ [] [] [] _ _ _ c.lines.invariant.passes (c.in_ok-rest.ensures.passes [] (other_than_none c.lines.rest.now));
}

pub returns : goal.returns
returns c = passed_new _ _ [] [] _ _ (grind (arith, nat_tests, c.is_empty.ensures, c.lines-test.false)) c.lines.invariant.passes
