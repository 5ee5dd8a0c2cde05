use Rattle.std.proofs.Common.{◌≡◌, ◌++◌, length}
use Rattle.seats.specs.Packing.{shown}
use Rattle.live_script.specs.History.{calls_of}
use Rattle.live_script.proofs.calls.add_calls.Given as goal

-- the calls so far, and those of the notes that are left
abbrev pub invariant-notes : goal.invariant-notes
invariant-notes g l = l.calls.items ++ calls_of (shown l.rest) ≡ l.fn.calls.items ++ calls_of (shown l.fn.notes)

abbrev pub decreases-notes : goal.decreases-notes
decreases-notes g l = length (shown l.rest)
