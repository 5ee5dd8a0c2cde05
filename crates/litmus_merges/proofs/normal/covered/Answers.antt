use Rattle.std.proofs.Common.{◌+◌, ◌-◌, arith}
use Rattle.litmus_merges.proofs.Putting.{covered_at, pass_end, passed_at}
use Rattle.litmus_merges.proofs.normal.covered.Goals as goal

pub back-init : goal.back-init
back-init c = record {
  within = omega arith;
  pass = pass_end c.args.steps.now c.args.step _ (omega arith);
}

pub returns-then-covers : goal.returns-then-covers
returns-then-covers c =
    let i = c.back.invariant in
    let more = c.back-test.true in
    let within = i.within in
    covered_at c.args.steps.now c.args.step c.back.at (c.back.at - 1) _ _ (omega (arith, more, within)) c.covers.ensures c.if-covers.true (omega (arith, more)) i.pass

pub back-preserved : goal.back-preserved
back-preserved c =
    let i = c.back.invariant in
    let more = c.back-test.true in
    let within = i.within in
    record {
      within = omega (arith, within);
      pass = passed_at c.args.steps.now c.args.step c.back.at (c.back.at - 1) _ _ (omega (arith, more, within)) c.may_pass.ensures c.if-not-may_pass.false
          (omega (arith, more)) i.pass;
    }
