use Rattle.std.proofs.Common.{length, ◌-◌}
use Rattle.slot_lock.proofs.Listing.{ListsTo}
use Rattle.slot_lock.proofs.walk.list_frames.Given as goal

abbrev pub invariant-slots : goal.invariant-slots
invariant-slots l = ListsTo l.slots l.from l.end l.i l.initial.list.items l.list.items

abbrev pub decreases-slots : goal.decreases-slots
decreases-slots l = length l.slots - l.i
