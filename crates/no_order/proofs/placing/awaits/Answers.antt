use Rattle.std.proofs.Common.{◌≡◌, ℕ, arith, false, get_or, refl, subst, sym, true}
use Rattle.orders.specs.declared.history.Timed.{Timed}
use Rattle.orders.proofs.Lists.{get_here}
use Rattle.no_order.specs.Beginnings.{IsAwaited}
use Rattle.no_order.proofs.Fronts.{none_more, none_of_all}
use Rattle.no_order.proofs.placing.awaits.Goals as goal

pub calls-preserved : goal.calls-preserved
calls-preserved c = none_more (λ (k : ℕ) (other : Timed). IsAwaited c.args.items.now k other c.args.call c.args.begin) c.args.history.now c.calls.at
    c.index-history-at.result c.calls-test.true
    (λ is. let wrong : false ≡ true = (c.if-is_awaited.ensures {u = tt}).1
    (subst (λ (other : Timed). IsAwaited c.args.items.now c.calls.at other c.args.call c.args.begin) (sym c.index-history-at.is) is) in absurd cc)
    c.calls.invariant

pub returns-then-is_awaited : goal.returns-then-is_awaited
returns-then-is_awaited c = (
  λ h. (
    c.calls.at,
    get_or c.args.history.now c.calls.at c.index-history-at.result,
    get_here c.args.history.now c.calls.at c.index-history-at.result c.calls-test.true,
    subst (λ (other : Timed). IsAwaited c.args.items.now c.calls.at other c.args.call c.args.begin) c.index-history-at.is
        (c.is_awaited.ensures.0 c.if-is_awaited.true),
  ),
  λ h. refl,
)

pub returns : goal.returns
returns c = (
  λ h. let wrong : false ≡ true = h in absurd cc,
  λ w. absurd (none_of_all (λ (k : ℕ) (other : Timed). IsAwaited c.args.items.now k other c.args.call c.args.begin) c.args.history.now c.calls.at
      (let end = c.calls-test.false in omega (arith, end)) c.calls.invariant w.0 w.1 w.2 w.3),
)
