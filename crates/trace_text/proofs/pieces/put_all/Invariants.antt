use Rattle.std.proofs.Common.{length, ◌-◌, ◌≡◌, ◌++◌, take}
use Rattle.std.specs.List.{flat_map}
use Rattle.trace_text.specs.Pieces.{piece_text}
use Rattle.trace_text.proofs.pieces.put_all.Given as goal

abbrev pub invariant-pieces : goal.invariant-pieces
invariant-pieces l = l.out.items ≡ l.initial.out.items ++ flat_map piece_text (take l.at l.pieces)

abbrev pub decreases-pieces : goal.decreases-pieces
decreases-pieces l = length l.pieces - l.at
