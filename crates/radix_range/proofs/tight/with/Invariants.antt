use Rattle.std.proofs.Common.{All}
use Rattle.slot_lock.specs.Slots.{Slots}
use Rattle.radix_range.specs.Tight.{IsTight}
use Rattle.radix_range.proofs.tight.with.Given as goal

abbrev pub invariant-left : goal.invariant-left
invariant-left l = (s : Slots) → All (IsTight s) l.tights → IsTight s l.new → All (IsTight s) l.all.items

abbrev pub invariant-right : goal.invariant-right
invariant-right l = (s : Slots) → All (IsTight s) l.tights → IsTight s l.new → All (IsTight s) l.all.items
