use Rattle.std.proofs.Common.{◌≡◌, map}
use Rattle.live_script.proofs.ran.seats_of.Given as goal

-- the seats of the first lanes
abbrev pub invariant-lanes : goal.invariant-lanes
invariant-lanes g l = l.seats.items ≡ map (λ lane. lane.seat) l.yielded
