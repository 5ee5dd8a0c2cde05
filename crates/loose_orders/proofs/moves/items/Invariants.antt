use Rattle.std.proofs.Common.{◌≡◌, ◌++◌, drop}
use Rattle.loose_orders.specs.Kernel.{items}
use Rattle.loose_orders.proofs.moves.items.Given as goal

-- the items so far, and those of the moves that are left
abbrev pub invariant-moves : goal.invariant-moves
invariant-moves g l = l.all.items ++ items (drop l.at l.moves) ≡ items l.moves
