use Rattle.std.proofs.Common.{◌≡◌, ◌≤◌, length}
use Rattle.import_log.specs.Owned.{has_loose}
use Rattle.import_log.proofs.owned.has_loose.Given as goal

abbrev pub invariant-lines : goal.invariant-lines
invariant-lines l = record {
  within : l.at ≤ length l.lines;
  same : has_loose l.lines l.at ≡ has_loose l.lines (length l.lines);
}

abbrev pub decreases-lines : goal.decreases-lines
decreases-lines l = l.at
