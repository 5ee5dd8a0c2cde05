use Rattle.std.proofs.Common.{◌≡◌, ℕ, ◌+◌, ◌*◌, ◌<◌, ◌≤◌, true}
use Rattle.vm_base.specs.Cores.{members}
use Rattle.seats.specs.Growing.{Grew}
use Rattle.live_pages.specs.Targets.{count_below}
use Rattle.live_pages.proofs.telling.take_all.Given as goal

abbrev pub invariant-cores : goal.invariant-cores
invariant-cores g l = record {
  grew : Grew l.fn.seat l.seat;
  room : l.fn.seat.room ≤ l.seat.room + 126 * count_below l.set l.index;
  acked : (d : ℕ) → d < l.index → members l.set d ≡ true → members l.acked.set d ≡ true;
  range : l.acked.range ≡ l.fn.posted.range;
}
