use Rattle.std.proofs.Common.{◌≡◌, ◌+◌, ◌-◌, ◌≤◌, [], length}
use Rattle.std.specs.Prelude.{All, vec_capacity}
use Rattle.seats.specs.Tickets.{IsNew}
use Rattle.seats.proofs.tickets.ticketers.Given as goal

abbrev pub invariant-others : goal.invariant-others
invariant-others g l = record {
  first : IsNew l.tickets (64 - l.counter) l.first;
  count : length l.all.items + 1 ≡ l.counter;
  new : All (λ t. (t.word ≡ l.tickets) × (t.tickets ≡ [])) l.all.items;
  room : l.count ≤ vec_capacity l.all;
}
