use Rattle.std.proofs.Common.{length}
use Rattle.std.specs.Prelude.{All}
use Rattle.live_space.specs.Space.{IsOf}
use Rattle.test_lanes.proofs.lane.lanes_of.Given as goal

abbrev pub invariant-seats : goal.invariant-seats
invariant-seats g l = record {
  own : All (IsOf l.live) l.seats.items;
}

abbrev pub decreases-seats : goal.decreases-seats
decreases-seats g l = length l.seats.items
