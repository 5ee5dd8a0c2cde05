use Rattle.std.proofs.Common.{◌≡◌, ◌++◌, List, take}
use Rattle.seats.specs.declared.noted.Noted.{Noted}
use Rattle.seats.specs.Packing.{shown}
use Rattle.live_script.specs.Sums.{sums_of}
use Rattle.live_script.proofs.sums.count_notes.Given as goal

-- the first of them were counted
abbrev pub invariant-notes : goal.invariant-notes
invariant-notes l = (before : List Noted) → l.fn.sums ≡ sums_of before → l.sums ≡ sums_of (before ++ take l.at (shown l.notes))
