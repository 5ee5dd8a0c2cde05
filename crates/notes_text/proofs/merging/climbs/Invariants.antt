use Rattle.std.proofs.Common.{take}
use Rattle.std.specs.List.Sorted.{IsNonDecreasingBy}
use Rattle.seats.specs.Notes.{ticket_of}
use Rattle.seats.specs.Packing.{shown}
use Rattle.notes_text.proofs.merging.climbs.Given as goal

-- those of the first notes don't fall
abbrev pub invariant-notes : goal.invariant-notes
invariant-notes l = IsNonDecreasingBy ticket_of (take l.at (shown l.notes))
