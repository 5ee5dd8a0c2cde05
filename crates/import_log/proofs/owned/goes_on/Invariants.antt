use Rattle.std.proofs.Common.{◌≡◌, ◌≤◌, false, length}
use Rattle.import_log.specs.Owned.{goes_on}
use Rattle.import_log.proofs.owned.goes_on.Given as goal

abbrev pub invariant-lines : goal.invariant-lines
invariant-lines l = record {
  within : l.at ≤ length l.lines;
  same : goes_on l.root l.lines l.later l.at ≡ goes_on l.root l.lines false (length l.lines);
}

abbrev pub decreases-lines : goal.decreases-lines
decreases-lines l = l.at
