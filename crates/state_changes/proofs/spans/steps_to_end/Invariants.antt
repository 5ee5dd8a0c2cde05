use Rattle.std.proofs.Common.{◌≡◌, ◌≤◌, ◌+◌, ◌-◌, length, drop}
use Rattle.state_changes.specs.Spans.{steps_to_end}
use Rattle.state_changes.proofs.spans.steps_to_end.Given as goal

abbrev pub invariant-moments : goal.invariant-moments
invariant-moments l = record {
  within : l.at ≤ length l.moments;
  same : l.at + steps_to_end (drop l.at l.moments) ≡ steps_to_end l.moments;
}

abbrev pub decreases-moments : goal.decreases-moments
decreases-moments l = length l.moments - l.at
