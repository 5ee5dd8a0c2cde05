use Rattle.std.proofs.Common.{◌≡◌, ◌+◌, length}
use Rattle.seats.specs.Growing.{Grew}
use Rattle.live_pages.proofs.telling.take_each.Given as goal

abbrev pub invariant-takes : goal.invariant-takes
invariant-takes g l = record {
  grew : Grew l.fn.seat l.seat;
  room : l.fn.seat.room ≡ l.seat.room + l._turn;
  core : l.seat.core ≡ l.fn.seat.core;
  notes : length l.seat.notes ≡ length l.fn.seat.notes + l._turn;
}
