use Rattle.std.proofs.Common.{◌≡◌, ◌∙◌, ℕ, arith, false, sym, true}
use Rattle.orders.specs.declared.history.Timed.{Timed}
use Rattle.no_order.proofs.Fronts.{none_more, none_of_all}
use Rattle.loose_orders.specs.Timely.{is_part}
use Rattle.loose_orders.proofs.TakenLemmas.{not_true}
use Rattle.loose_orders.proofs.timely.none_is_part.Goals as goal

pub calls-preserved : goal.calls-preserved
calls-preserved c = none_more (λ (k : ℕ) (d : Timed). is_part d.call.request d.call.reply ≡ true) c.args.history.now c.calls.at
    c.index-history-at.result c.calls-test.true
    (λ is. let wrong : true ≡ false = sym is ∙ (sym c.is_part-part.ensures ∙ c.if-part.false) in absurd cc)
    c.calls.invariant

pub returns : goal.returns
returns c = λ e i d is. not_true (is_part d.call.request d.call.reply)
    (none_of_all (λ (k : ℕ) (x : Timed). is_part x.call.request x.call.reply ≡ true) c.args.history.now c.calls.at
    (let end = c.calls-test.false in omega (arith, end)) c.calls.invariant i d is)
