use Rattle.std.proofs.Common.{◌≡◌, []}
use Rattle.std.specs.Prelude.{All}
use Rattle.test_live.proofs.ticket_tests.lanes_of.Given as goal

abbrev pub invariant-lanes : goal.invariant-lanes
invariant-lanes l = record {
  new : All (λ n. (n.ticketer.word ≡ l.word) × (n.ticketer.tickets ≡ [])) l.lanes.items;
}
