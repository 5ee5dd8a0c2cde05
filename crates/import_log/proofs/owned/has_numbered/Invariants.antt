use Rattle.std.proofs.Common.{◌≡◌, ◌≤◌, length}
use Rattle.import_log.specs.Owned.{has_numbered}
use Rattle.import_log.proofs.owned.has_numbered.Given as goal

abbrev pub invariant-lines : goal.invariant-lines
invariant-lines l = record {
  within : l.at ≤ length l.lines;
  same : has_numbered l.lines l.at ≡ has_numbered l.lines (length l.lines);
}

abbrev pub decreases-lines : goal.decreases-lines
decreases-lines l = l.at
