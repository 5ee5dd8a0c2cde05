use Rattle.std.proofs.Common.{◌+◌, ◌-◌, arith}
use Rattle.litmus_merges.proofs.Putting.{pass_end, pass_further, passed_at}
use Rattle.litmus_merges.proofs.normal.place_of.Goals as goal

pub back-init : goal.back-init
back-init c = record {
  here = omega arith;
  within = omega arith;
  pass = pass_end c.args.steps.now c.args.step _ (omega arith);
}

pub returns-then-not-may_pass-clause-pass : goal.returns-then-not-may_pass-clause-pass
returns-then-not-may_pass-clause-pass c = pass_further c.args.steps.now c.args.step c.back.at c.back.place c.back.invariant.here c.back.invariant.pass

pub returns-clause-pass : goal.returns-clause-pass
returns-clause-pass c = pass_further c.args.steps.now c.args.step c.back.at c.back.place c.back.invariant.here c.back.invariant.pass

pub back-preserved : goal.back-preserved
back-preserved c =
    let i = c.back.invariant in
    let more = c.back-test.true in
    let here = i.here in
    let within = i.within in
    record {
      here = omega (arith, here);
      within = omega (arith, here, within);
      pass = passed_at c.args.steps.now c.args.step c.back.at (c.back.at - 1) _ _ (omega (arith, more, here, within)) c.may_pass.ensures c.if-not-may_pass.false
          (omega (arith, more)) i.pass;
    }

pub back-preserved-then-step_print-print : goal.back-preserved-then-step_print-print
back-preserved-then-step_print-print c =
    let i = c.back.invariant in
    let more = c.back-test.true in
    let here = i.here in
    let within = i.within in
    record {
      here = omega arith;
      within = omega (arith, here, within);
      pass = passed_at c.args.steps.now c.args.step c.back.at (c.back.at - 1) _ _ (omega (arith, more, here, within)) c.may_pass.ensures c.if-not-may_pass.false
          (omega (arith, more)) i.pass;
    }
