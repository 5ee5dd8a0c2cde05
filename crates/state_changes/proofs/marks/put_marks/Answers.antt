use Rattle.std.proofs.Common.{arith}
use Rattle.std.proofs.lemmas.Bool.Decides.{nat_tests}
use Rattle.state_changes.proofs.Marking.{passed_none, passed_new, passed_old, passed_then}
use Rattle.state_changes.proofs.marks.put_marks.Goals as goal

pub both-init : goal.both-init
both-init c = record { passes = passed_none _ _ _ }

pub both-preserved : goal.both-preserved
both-preserved c = record {
  passes = passed_then _ _ _ _ _ _ _ _ _ c.both.invariant.passes c.in_ok-rest.ensures.passes;
}

pub returns-then-no_old : goal.returns-then-no_old
returns-then-no_old c = passed_then _ _ _ _ _ _ _ _ _
    (passed_old _ _ _ _ _ _ (grind (arith, nat_tests, c.is_empty-no_old.ensures, c.if-no_old.true)) c.both.invariant.passes)
    c.in_ok-put_all_come.ensures

pub returns-then-no_new : goal.returns-then-no_new
returns-then-no_new c = passed_then _ _ _ _ _ _ _ _ _
    (passed_new _ _ _ _ _ _ (grind (arith, nat_tests, c.is_empty-no_new.ensures, c.if-no_new.true)) c.both.invariant.passes)
    c.in_ok-put_all_gone.ensures
