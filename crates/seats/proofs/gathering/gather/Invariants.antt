use Rattle.std.proofs.Common.{◌≡◌, ◌≤◌, ◌+◌, ◌++◌, length, map}
use Rattle.std.specs.Prelude.{All, vec_capacity}
use Rattle.seats.proofs.AllSeats.{IsGathered}
use Rattle.seats.proofs.gathering.gather.Given as goal

-- the seats so far are gathered with the last
abbrev pub invariant-seats : goal.invariant-seats
invariant-seats g l = record {
  left : l.yielded ++ l.seat-iterator.rest.items ≡ l.initial.seat-iterator.rest.items;
  own : All (λ s. s.word ≡ l.word) l.seat-iterator.rest.items;
  room : length l.all.items + length l.seat-iterator.rest.items + 1 ≤ vec_capacity l.all;
  gathered : IsGathered l.word l.last.notes l.initial.joined.spare l.joined l.yielded (map (λ list. list.notes) l.all.items);
}
