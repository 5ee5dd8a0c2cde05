use Rattle.std.proofs.Common.{ℕ, ◌<◌}
use Rattle.orders.specs.Orders.{Precedes}
use Rattle.orders.specs.declared.history.Timed.{Timed}
use Rattle.loose_orders.specs.Kernel.{Conflict, IsAt}
use Rattle.loose_orders.proofs.between.goes_on.Given as goal

-- none so far ends the change
abbrev pub invariant-between : goal.invariant-between
invariant-between l = (x : ℕ) → l.place < x → x < l.at → (c : Timed) → IsAt l.history l.moves x c → (¬ Precedes l.change c) × ¬ Conflict c l.change
