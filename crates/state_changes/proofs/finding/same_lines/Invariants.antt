use Rattle.std.proofs.Common.{◌≡◌, ◌≤◌, ◌-◌, length, take}
use Rattle.state_changes.proofs.finding.same_lines.Given as goal

abbrev pub invariant-lines : goal.invariant-lines
invariant-lines l = record {
  old : l.at ≤ length l.old;
  new : l.at ≤ length l.new;
  same : take l.at l.old ≡ take l.at l.new;
}

abbrev pub decreases-lines : goal.decreases-lines
decreases-lines l = length l.old - l.at
