use Rattle.std.proofs.Common.{◌≡◌, ◌∙◌, ℕ, arith, false, subst, sym, true}
use Rattle.orders.specs.declared.history.Timed.{Timed}
use Rattle.no_order.proofs.Fronts.{none_more, none_of_all}
use Rattle.loose_orders.specs.Timely.{is_beside}
use Rattle.loose_orders.proofs.TakenLemmas.{not_true}
use Rattle.loose_orders.proofs.timely.may_be_late.Goals as goal

pub calls-preserved : goal.calls-preserved
calls-preserved c = none_more (λ (k : ℕ) (change : Timed). is_beside c.args.timed.now c.args.page change ≡ true) c.args.history.now c.calls.at
    c.index-history-at.result c.calls-test.true
    (λ is. let here = subst (λ (d : Timed). is_beside c.args.timed.now c.args.page d ≡ true) (sym c.index-history-at.is) is in
    let wrong : true ≡ false = sym here ∙ (sym c.is_beside-beside.ensures ∙ c.if-beside.false) in absurd cc)
    c.calls.invariant

pub returns : goal.returns
returns c = λ e i change is. not_true (is_beside c.args.timed.now c.args.page change)
    (none_of_all (λ (k : ℕ) (d : Timed). is_beside c.args.timed.now c.args.page d ≡ true) c.args.history.now c.calls.at
    (let end = c.calls-test.false in omega (arith, end)) c.calls.invariant i change is)
