use Rattle.std.proofs.Common.{◌≡◌, ◌≤◌, ◌-◌, ◌+◌, map, length, drop}
use Rattle.word_import.specs.Joined.{line_of, unplaced}
use Rattle.word_import.proofs.joined.unplaced.Given as goal

abbrev pub invariant-lines : goal.invariant-lines
invariant-lines l = record {
  within : l.at ≤ length l.lines;
  few : l.count ≤ l.at;
  same : l.count + unplaced (map line_of (drop l.at l.lines)) ≡ unplaced (map line_of l.lines);
}

abbrev pub decreases-lines : goal.decreases-lines
decreases-lines l = length l.lines - l.at
