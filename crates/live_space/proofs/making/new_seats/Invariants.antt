use Rattle.std.proofs.Common.{◌≡◌, ◌+◌, ◌-◌, ◌≤◌, length}
use Rattle.std.specs.Prelude.{vec_capacity, sum_by}
use Rattle.std.specs.Arc.{arc_value}
use Rattle.seats.specs.Tickets.{IsNew}
use Rattle.live_space.specs.Space.{AreFresh}
use Rattle.live_space.proofs.making.new_seats.Given as goal

abbrev pub invariant-seats : goal.invariant-seats
invariant-seats g l = record {
  first : IsNew (arc_value l.tickets) (63 - l.core) l.first;
  fresh : AreFresh (arc_value l.tickets) l.core l.seats.items;
  spare : sum_by (λ s. s.spare + 1) l.seats.items ≡ l.core;
  room : l.count ≤ vec_capacity l.seats;
}
