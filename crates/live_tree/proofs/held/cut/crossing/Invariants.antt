use Rattle.slot_lock.proofs.Words.{map, take, All}
use Rattle.live_tree.specs.Guards.{slot_of}
use Rattle.live_tree.specs.Held.{CrossesNoEdge}
use Rattle.live_tree.proofs.held.cut.crossing.Given as goal

abbrev pub invariant-guards : goal.invariant-guards
invariant-guards g l = All (CrossesNoEdge l.range) (take l.at (map slot_of l.guard-items))
