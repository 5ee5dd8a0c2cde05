use Rattle.std.proofs.Common.{◌≡◌, ◌≤◌, ◌+◌, ◌-◌, length, drop}
use Rattle.import_lines.specs.Torn.{next_text}
use Rattle.import_lines.proofs.torn.next_place.Given as goal

abbrev pub invariant-later : goal.invariant-later
invariant-later l = record {
  within : l.at ≤ length l.lines;
  count : l.count ≡ length l.lines;
  same : next_text l.thread (drop l.at l.lines) ≡ next_text l.thread (drop (l.place + 1) l.lines);
}

abbrev pub decreases-later : goal.decreases-later
decreases-later l = length l.lines - l.at
