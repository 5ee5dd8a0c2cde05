use Rattle.std.proofs.Common.{◌≡◌, ◌≤◌, ◌-◌, ◌+◌, length, drop}
use Rattle.overlapping.specs.Replies.{lacking_among}
use Rattle.overlapping.proofs.replies.count_lacking.Given as goal

abbrev pub invariant-calls : goal.invariant-calls
invariant-calls l = record {
  within : l.at ≤ length l.calls;
  few : l.count ≤ l.at;
  same : l.count + lacking_among (drop l.at l.calls) ≡ lacking_among l.calls;
}

abbrev pub decreases-calls : goal.decreases-calls
decreases-calls l = length l.calls - l.at
