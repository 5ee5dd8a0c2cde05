use Rattle.std.proofs.Common.{◌≡◌, []}
use Rattle.live_space.specs.InFlight.{GoesOn}
use Rattle.live_space.proofs.in_call.InCall.touch.Given as goal

abbrev pub invariant-tries : goal.invariant-tries
invariant-tries g l = record {
  goes : GoesOn l.fn.self.seat l.self.seat;
  none : l.self.held.slots ≡ [];
}
