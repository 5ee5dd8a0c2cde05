use Rattle.live_levels.specs.Histories.{Grew}
use Rattle.live_levels.proofs.leaves.LeavesLevel.gather.Given as goal

abbrev pub invariant-slots : goal.invariant-slots
invariant-slots g l = Grew l.next l.at l.fn.slots.items l.slots.items
