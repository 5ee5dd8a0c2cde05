use Rattle.std.proofs.Common.{◌≡◌, map}
use Rattle.litmus.proofs.running.lanes_of.Given as goal

-- the lanes of the first seats
abbrev pub invariant-seats : goal.invariant-seats
invariant-seats l = map (λ lane. lane.seat) l.lanes.items ≡ l.yielded
