use Rattle.std.proofs.Common.{◌≡◌, ◌≤◌, length}
use Rattle.import_steps.specs.Shared.{len_of, len_within}
use Rattle.import_steps.proofs.shared.len_of.Given as goal

abbrev pub invariant-pieces : goal.invariant-pieces
invariant-pieces l = record {
  within : l.at ≤ length l.pieces;
  same : len_within l.key l.pieces l.at ≡ len_of l.key l.pieces;
}

abbrev pub decreases-pieces : goal.decreases-pieces
decreases-pieces l = l.at
