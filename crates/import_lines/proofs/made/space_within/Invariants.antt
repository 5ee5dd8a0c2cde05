use Rattle.std.proofs.Common.{◌≡◌, length}
use Rattle.import_lines.specs.Made.{fork_of, maker_of, space_within}
use Rattle.import_lines.proofs.made.space_within.Given as goal

abbrev pub invariant-makers : goal.invariant-makers
invariant-makers l = record {
  same : space_within l.copies l.made l.line l.more l.process ≡ space_within l.copies l.made l.line (length l.made) l.initial.process;
  own : l.own ≡ fork_of (maker_of l.made l.process);
}

abbrev pub decreases-makers : goal.decreases-makers
decreases-makers l = l.more
