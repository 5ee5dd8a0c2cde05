use Rattle.std.proofs.Common.{length, ◌-◌}
use Rattle.slot_lock.proofs.Walks.{Users}
use Rattle.slot_lock.proofs.walk.recorded.Given as goal

abbrev pub invariant-slots : goal.invariant-slots
invariant-slots l = Users l.slots l.range l.cores l.i

abbrev pub decreases-slots : goal.decreases-slots
decreases-slots l = length l.slots - l.i
