use Rattle.std.proofs.Common.{◌≡◌, map, take}
use Rattle.seats.specs.Packing.{shown}
use Rattle.live_script.specs.History.{history_of}
use Rattle.live_script.proofs.calls.history_of.Given as goal

-- the calls of the seats so far
abbrev pub invariant-seats : goal.invariant-seats
invariant-seats g l = l.calls.items ≡ history_of (take l.at (map shown l.fn.seats))
