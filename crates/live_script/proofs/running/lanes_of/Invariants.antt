use Rattle.std.proofs.Common.{◌≡◌, map}
use Rattle.live_script.proofs.running.lanes_of.Given as goal

-- the lanes of the first seats
abbrev pub invariant-seats : goal.invariant-seats
invariant-seats g l = map (λ lane. lane.seat) l.lanes.items ≡ l.yielded
