use Rattle.std.proofs.Common.{◌≡◌, ◌≤◌, ◌-◌, false, length}
use Rattle.import_log.specs.Imported.{begins_in}
use Rattle.import_log.proofs.refusing.begins_in.Given as goal

abbrev pub invariant-lines : goal.invariant-lines
invariant-lines l = record {
  within : l.at ≤ length l.lines;
  same : begins_in l.lines l.made l.process l.at ≡ false;
}

abbrev pub decreases-lines : goal.decreases-lines
decreases-lines l = length l.lines - l.at
