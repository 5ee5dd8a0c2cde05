use Rattle.std.proofs.Common.{arith, subst}
use Rattle.std.specs.Prelude.{◌≡◌, IfSome, Option}
use Rattle.orders.specs.declared.history.Timed.{Timed}
use Rattle.cores.specs.Byteless.{Fits, timed_byteless}
use Rattle.cores.proofs.Forgetting.{all_so_far, one_more}
use Rattle.cores.proofs.byteless.without_bytes.Goals as goal

pub calls-preserved : goal.calls-preserved
calls-preserved g c =
    let call = c.index-history-at.result in
    let told =
    subst (λ (o : Option Timed). IfSome o (λ left. (left ≡ timed_byteless call) × Fits call.call.request call.call.reply)) c.in-Some.is
    c.timed_byteless.ensures in
    one_more c.args.history.now c.calls.left.items c.push.new.self.items c.calls.at call c.in-Some.timed c.in_ok-push-in-Some.ensures.items
    c.calls-test.true c.index-history-at.is told.0 told.1 c.calls.invariant

pub returns : goal.returns
returns g c =
    all_so_far c.args.history.now c.calls.left.items c.calls.at (let end = c.calls-test.false in omega (arith, end)) c.calls.invariant
