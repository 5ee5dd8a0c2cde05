use Rattle.std.proofs.Common.{◌≡◌, map, take}
use Rattle.std.specs.Prelude.{All}
use Rattle.seats.specs.Packing.{shown}
use Rattle.live_script.specs.Certified.{AreRising}
use Rattle.live_script.proofs.ran.notes_of.Given as goal

-- the notes of the first lanes
abbrev pub invariant-lanes : goal.invariant-lanes
invariant-lanes g l = record {
  are : map shown l.all.items ≡ map (λ lane. lane.seat.notes) (take l.at l.fn.lanes);
  rising : All AreRising (map shown l.all.items);
}
