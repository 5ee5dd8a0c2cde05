use Rattle.std.proofs.Common.{◌≡◌, ◌≤◌, length}
use Rattle.import_log.specs.Imported.{end_of}
use Rattle.import_log.proofs.import.end_of.Given as goal

abbrev pub invariant-lines : goal.invariant-lines
invariant-lines l = record {
  within : l.end ≤ length l.lines;
  same : end_of l.made l.process l.lines l.end ≡ end_of l.made l.process l.lines (length l.lines);
}

abbrev pub decreases-lines : goal.decreases-lines
decreases-lines l = l.end
