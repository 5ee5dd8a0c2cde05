use Rattle.std.proofs.Common.{◌≡◌, ◌≤◌}
use Rattle.live_space.specs.InFlight.{GoesOn}
use Rattle.live_space.proofs.in_call.InCall.lock_all.Given as goal

abbrev pub invariant-slots : goal.invariant-slots
invariant-slots g l = record {
  goes : GoesOn l.fn.self.seat l.self.seat;
  first : l.self.held.first ≡ l.fn.self.held.first;
  within : l.fn.self.held.end ≤ l.fn.end → l.self.held.end ≤ l.fn.end;
  space : l.self.space ≡ l.fn.self.space;
}
