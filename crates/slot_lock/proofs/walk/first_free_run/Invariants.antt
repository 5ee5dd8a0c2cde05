use Rattle.std.proofs.Common.{length, ◌-◌}
use Rattle.slot_lock.proofs.Walks.{Free}
use Rattle.slot_lock.proofs.walk.first_free_run.Given as goal

abbrev pub invariant-slots : goal.invariant-slots
invariant-slots l = Free l.slots l.range l.n l.start l.i

abbrev pub decreases-slots : goal.decreases-slots
decreases-slots l = length l.slots - l.i
