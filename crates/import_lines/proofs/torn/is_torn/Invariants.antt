use Rattle.std.proofs.Common.{◌≡◌, ◌≤◌, length}
use Rattle.import_lines.specs.Torn.{is_torn}
use Rattle.import_lines.proofs.torn.is_torn.Given as goal

abbrev pub invariant-lines : goal.invariant-lines
invariant-lines l = record {
  within : l.at ≤ length l.lines;
  same : is_torn l.lines l.at ≡ is_torn l.lines (length l.lines);
}

abbrev pub decreases-lines : goal.decreases-lines
decreases-lines l = l.at
