use Rattle.slot_lock.proofs.Words.{map, take, All}
use Rattle.live_tree.specs.Guards.{slot_of}
use Rattle.live_tree.specs.Held.{CanTake}
use Rattle.live_tree.proofs.held.page.all_can_take.Given as goal

abbrev pub invariant-guards : goal.invariant-guards
invariant-guards g l = All (CanTake l.act) (take l.guard-index (map slot_of l.guard-items))
