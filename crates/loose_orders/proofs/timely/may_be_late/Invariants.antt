use Rattle.std.proofs.Common.{◌≡◌, ℕ, true}
use Rattle.orders.specs.declared.history.Timed.{Timed}
use Rattle.no_order.proofs.Fronts.{NoneOf}
use Rattle.loose_orders.specs.Timely.{is_beside}
use Rattle.loose_orders.proofs.timely.may_be_late.Given as goal

-- the access may be late to none so far
abbrev pub invariant-calls : goal.invariant-calls
invariant-calls l = NoneOf (λ (k : ℕ) (change : Timed). is_beside l.timed l.page change ≡ true) l.history l.at
