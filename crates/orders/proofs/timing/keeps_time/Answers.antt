use Rattle.std.proofs.Common.{◌≡◌, ◌∙◌, ◌+◌, ap, arith, false, refl, slice_get, subst, sym, true}
use Rattle.orders.proofs.Lists.{get_here}
use Rattle.orders.proofs.TimeLemmas.{IsLatest, goes_on, keeps, never_none, none_yet, too_late}
use Rattle.orders.proofs.timing.keeps_time.Goals as goal

pub order-init : goal.order-init
order-init c = none_yet c.args.history.now c.args.items.now

pub order-preserved : goal.order-preserved
order-preserved c =
    let late = c.if-timed-latest.false in
    subst (IsLatest c.args.history.now c.args.items.now (c.order.at + 1)) (sym c.max-latest.ensures)
    (goes_on c.args.history.now c.args.items.now c.order.at c.order.latest _ c.in-Some.timed
    (get_here c.args.items.now c.order.at _ c.order-test.true)
    (ap (slice_get c.args.history.now) (sym c.call.ensures) ∙ (sym c.call_at.ensures ∙ c.in-Some.is)) (omega (arith, late)) c.order.invariant)

pub returns-in_default : goal.returns-in_default
returns-in_default c = (
  (λ h. let wrong : false ≡ true = h in absurd cc),
  (λ k. absurd (never_none c.args.history.now c.args.items.now c.order.at _ c.requires
      (get_here c.args.items.now c.order.at _ c.order-test.true)
      (ap (slice_get c.args.history.now) (sym c.call.ensures) ∙ (sym c.call_at.ensures ∙ c.in_default.is)))),
)

pub returns-then-timed-latest : goal.returns-then-timed-latest
returns-then-timed-latest c = (
  (λ h. let wrong : false ≡ true = h in absurd cc),
  (λ k. absurd (too_late c.args.history.now c.args.items.now c.order.at c.order.latest _ c.in-Some.timed
      (get_here c.args.items.now c.order.at _ c.order-test.true)
      (ap (slice_get c.args.history.now) (sym c.call.ensures) ∙ (sym c.call_at.ensures ∙ c.in-Some.is)) c.if-timed-latest.true c.order.invariant k)),
)

pub returns : goal.returns
returns c =
    let end = c.order-test.false in
    ((λ h. keeps c.args.history.now c.args.items.now c.order.at c.order.latest (omega (arith, end)) c.order.invariant), (λ k. refl))
