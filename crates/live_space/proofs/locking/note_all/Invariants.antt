use Rattle.std.proofs.Common.{◌≡◌, ◌+◌, ◌≤◌, length}
use Rattle.seats.specs.Growing.{Grew}
use Rattle.live_space.proofs.locking.note_all.Given as goal

abbrev pub invariant-slots : goal.invariant-slots
invariant-slots g l = record {
  grew : Grew l.fn.seat l.seat;
  room : length l.letting.slots ≤ l.seat.room;
  kept : l.seat.room + length l.fn.letting.slots ≡ l.fn.seat.room + length l.letting.slots;
}

abbrev pub decreases-slots : goal.decreases-slots
decreases-slots g l = length l.letting.slots
