use Rattle.std.proofs.Common.{◌≡◌, ℕ}
use Rattle.orders.specs.declared.history.Item.{Item}
use Rattle.orders.specs.declared.history.Item.TheVariants.{Reply}
use Rattle.no_order.proofs.Fronts.{NoneOf}
use Rattle.no_order.proofs.placing.is_replied.Given as goal

-- none of the items so far is the call's reply
abbrev pub invariant-items : goal.invariant-items
invariant-items l = NoneOf (λ (k : ℕ) (item : Item). item ≡ Reply l.call) l.items l.at
