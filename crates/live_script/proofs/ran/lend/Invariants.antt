use Rattle.std.proofs.Common.{◌≡◌, map, take}
use Rattle.std.specs.Prelude.{All}
use Rattle.seats.specs.Fitting.{FitsTypes}
use Rattle.seats.specs.Packing.{shown}
use Rattle.live_script.proofs.ran.lend.Given as goal

-- the notes of the first seats
abbrev pub invariant-seats : goal.invariant-seats
invariant-seats g l = record {
  are : map shown l.all.items ≡ map (λ list. list.notes) (take l.at l.fn.notes);
  typed : All (All FitsTypes) (map shown l.all.items);
}
