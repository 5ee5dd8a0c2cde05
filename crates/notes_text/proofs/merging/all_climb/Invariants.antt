use Rattle.std.proofs.Common.{map, take}
use Rattle.std.specs.Prelude.{All}
use Rattle.std.specs.List.Sorted.{IsNonDecreasingBy}
use Rattle.seats.specs.Notes.{ticket_of}
use Rattle.seats.specs.Packing.{shown}
use Rattle.notes_text.proofs.merging.all_climb.Given as goal

-- those of the first lists don't fall
abbrev pub invariant-lists : goal.invariant-lists
invariant-lists l = All (IsNonDecreasingBy ticket_of) (take l.at (map shown l.lists))
