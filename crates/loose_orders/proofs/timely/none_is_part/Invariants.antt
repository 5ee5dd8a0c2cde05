use Rattle.std.proofs.Common.{◌≡◌, ℕ, true}
use Rattle.orders.specs.declared.history.Timed.{Timed}
use Rattle.no_order.proofs.Fronts.{NoneOf}
use Rattle.loose_orders.specs.Timely.{is_part}
use Rattle.loose_orders.proofs.timely.none_is_part.Given as goal

-- none so far is
abbrev pub invariant-calls : goal.invariant-calls
invariant-calls l = NoneOf (λ (k : ℕ) (c : Timed). is_part c.call.request c.call.reply ≡ true) l.history l.at
