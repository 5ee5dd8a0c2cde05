use Rattle.std.proofs.Common.{◌≡◌, map, take}
use Rattle.std.specs.Prelude.{None}
use Rattle.shared_script.specs.Lanes.{last_stop}
use Rattle.shared_script.proofs.running.last_stop.Given as goal

-- the last stop so far
abbrev pub invariant-lanes : goal.invariant-lanes
invariant-lanes g l = l.last ≡ last_stop None (map (λ lane. lane.stop) (take l.at l.fn.lanes))
