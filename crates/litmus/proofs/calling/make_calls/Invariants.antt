use Rattle.live_space.specs.Space.{IsOf}
use Rattle.litmus.proofs.calling.make_calls.Given as goal

-- the seat is still one of the space
abbrev pub invariant-calls : goal.invariant-calls
invariant-calls g l = IsOf l.live l.seat
