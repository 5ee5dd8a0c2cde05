use Rattle.std.proofs.Common.{length, ◌-◌}
use Rattle.slot_lock.proofs.Changes.{Changing}
use Rattle.slot_lock.proofs.slot.change.Given as goal

abbrev pub invariant-slots : goal.invariant-slots
invariant-slots g l = Changing l.fn.slots.items l.slots.items l.change l.i

abbrev pub decreases-slots : goal.decreases-slots
decreases-slots g l = length l.fn.slots.items - l.i
