use Rattle.std.proofs.Common.{map}
use Rattle.seats.specs.Packing.{shown}
use Rattle.notes_text.specs.Merged.{IsBest}
use Rattle.notes_text.proofs.merging.least.Given as goal

-- the least head of the first lists
abbrev pub invariant-lists : goal.invariant-lists
invariant-lists l = IsBest l.at (map shown l.lists) l.best
