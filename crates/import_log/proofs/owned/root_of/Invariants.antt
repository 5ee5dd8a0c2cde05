use Rattle.std.proofs.Common.{◌≡◌, ◌≤◌, length}
use Rattle.import_log.specs.Owned.{root_of}
use Rattle.import_log.proofs.owned.root_of.Given as goal

abbrev pub invariant-lines : goal.invariant-lines
invariant-lines l = record {
  within : l.at ≤ length l.lines;
  same : root_of l.made l.lines l.at ≡ root_of l.made l.lines (length l.lines);
}

abbrev pub decreases-lines : goal.decreases-lines
decreases-lines l = l.at
