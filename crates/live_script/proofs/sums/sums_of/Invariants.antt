use Rattle.std.proofs.Common.{◌≡◌, map, take}
use Rattle.certifier.specs.Order.{all_notes}
use Rattle.seats.specs.Packing.{shown}
use Rattle.live_script.specs.Sums.{sums_of}
use Rattle.live_script.proofs.sums.sums_of.Given as goal

-- the notes of the seats so far were counted
abbrev pub invariant-seats : goal.invariant-seats
invariant-seats l = l.sums ≡ sums_of (all_notes (take l.at (map shown l.seats)))
