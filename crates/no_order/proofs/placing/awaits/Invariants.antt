use Rattle.std.proofs.Common.{ℕ}
use Rattle.orders.specs.declared.history.Timed.{Timed}
use Rattle.no_order.specs.Beginnings.{IsAwaited}
use Rattle.no_order.proofs.Fronts.{NoneOf}
use Rattle.no_order.proofs.placing.awaits.Given as goal

-- none of the calls so far must stand before this one
abbrev pub invariant-calls : goal.invariant-calls
invariant-calls l = NoneOf (λ (k : ℕ) (other : Timed). IsAwaited l.items k other l.call l.begin) l.history l.at
