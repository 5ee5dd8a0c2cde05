use Rattle.std.proofs.Common.{◌≡◌, ◌∙◌, ℕ, Some, ap, arith, false, true, refl}
use Rattle.orders.specs.declared.history.Item.{Item}
use Rattle.orders.specs.declared.history.Item.TheVariants.{Reply}
use Rattle.orders.proofs.Lists.{get_here}
use Rattle.no_order.proofs.Fronts.{none_more, none_of_all}
use Rattle.no_order.proofs.placing.is_replied.Goals as goal

pub items-preserved : goal.items-preserved
items-preserved c = none_more (λ (k : ℕ) (item : Item). item ≡ Reply c.args.call) c.args.items.now c.items.at _ c.items-test.true
    (λ is. let wrong : false ≡ true = (c.if-is_reply_of.ensures {u = tt}).1 is in absurd cc) c.items.invariant

pub returns-then-is_reply_of : goal.returns-then-is_reply_of
returns-then-is_reply_of c = (
  λ h. (c.items.at, get_here c.args.items.now c.items.at _ c.items-test.true ∙ ap Some (c.is_reply_of.ensures.0 c.if-is_reply_of.true)),
  λ h. refl,
)

pub returns : goal.returns
returns c = (
  λ h. let wrong : false ≡ true = h in absurd cc,
  λ s. absurd (none_of_all (λ (k : ℕ) (item : Item). item ≡ Reply c.args.call) c.args.items.now c.items.at (let end = c.items-test.false in omega (arith, end))
      c.items.invariant s.0 (Reply c.args.call) s.1 refl),
)
