use Rattle.std.proofs.Common.{◌≡◌, ◌≤◌, ◌+◌, ◌-◌, length, drop}
use Rattle.import_lines.specs.Joining.{next_of}
use Rattle.import_lines.proofs.joining.next_of.Given as goal

abbrev pub invariant-later : goal.invariant-later
invariant-later l = record {
  within : l.at ≤ length l.lines;
  count : l.count ≡ length l.lines;
  same : next_of l.thread (drop l.at l.lines) ≡ next_of l.thread (drop (l.place + 1) l.lines);
}

abbrev pub decreases-later : goal.decreases-later
decreases-later l = length l.lines - l.at
