use Rattle.std.proofs.Common.{◌≡◌, ◌≤◌, length}
use Rattle.import_log.specs.Owned.{has_other}
use Rattle.import_log.proofs.owned.has_other.Given as goal

abbrev pub invariant-lines : goal.invariant-lines
invariant-lines l = record {
  within : l.at ≤ length l.lines;
  same : has_other l.made l.root l.lines l.at ≡ has_other l.made l.root l.lines (length l.lines);
}

abbrev pub decreases-lines : goal.decreases-lines
decreases-lines l = l.at
