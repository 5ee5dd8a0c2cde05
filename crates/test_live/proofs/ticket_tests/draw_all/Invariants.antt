use Rattle.std.proofs.Common.{◌≡◌, length}
use Rattle.test_live.proofs.ticket_tests.draw_all.Given as goal

abbrev pub invariant-draws : goal.invariant-draws
invariant-draws l = record {
  word : l.lane.ticketer.word ≡ l.tickets;
  drawn : length l.lane.ticketer.tickets ≡ l.counter;
}
