use Rattle.std.proofs.Common.{All}
use Rattle.radix_range.specs.Tree.{tree_slots}
use Rattle.radix_range.specs.Tight.{IsTight}
use Rattle.radix_range.proofs.tight.forget.Given as goal

abbrev pub invariant-tights : goal.invariant-tights
invariant-tights g l = All (IsTight (tree_slots l.root)) l.rest.items
