use Rattle.std.proofs.Common.{ℕ, ◌<◌}
use Rattle.orders.specs.declared.history.Timed.{Timed}
use Rattle.loose_orders.specs.Kernel.{Sees}
use Rattle.loose_orders.proofs.between.is_unseen.Given as goal

-- none so far has seen the page
abbrev pub invariant-between : goal.invariant-between
invariant-between l = (x : ℕ) → l.place < x → x < l.at → (c : Timed) → ¬ Sees l.history l.moves x l.page c
