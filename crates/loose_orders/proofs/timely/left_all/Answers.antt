use Rattle.std.proofs.Common.{◌⊎◌, arith, subst}
use Rattle.std.specs.Prelude.{IfSome, Option}
use Rattle.orders.specs.declared.history.Timed.{Timed}
use Rattle.loose_orders.specs.Timely.{StaysAsTimely, out_of}
use Rattle.loose_orders.proofs.TakenLemmas.{all_so_far, one_more}
use Rattle.loose_orders.proofs.timely.left_all.Goals as goal

pub calls-preserved : goal.calls-preserved
calls-preserved g c =
    let h = c.args.history.now in
    let call = c.index-history-at.result in
    let told =
    subst (λ (o : Option Timed). IfSome o (λ d. StaysAsTimely h call d ⊎ out_of c.args.unstored call d)) c.in-Some.is c.left_one.ensures in
    one_more (out_of c.args.unstored) h c.calls.left.items c.push.new.self.items c.calls.at call c.in-Some.timed c.calls-test.true
    c.index-history-at.is c.in_ok-push-in-Some.ensures.items told c.calls.invariant

pub returns : goal.returns
returns g c =
    all_so_far (out_of c.args.unstored) c.args.history.now c.calls.left.items c.calls.at (let end = c.calls-test.false in omega (arith, end)) c.calls.invariant
