use Rattle.std.proofs.Common.{◌≡◌, ◌≤◌, ◌-◌, ◌++◌, length, take}
use Rattle.std.specs.List.{flat_map}
use Rattle.state_changes.specs.Data.{moment_text}
use Rattle.state_changes.proofs.data.put_group.Given as goal

abbrev pub invariant-moments : goal.invariant-moments
invariant-moments l = record {
  within : l.at ≤ length l.moments;
  written : l.out.items ≡ l.initial.out.items ++ flat_map moment_text (take l.at l.moments);
}

abbrev pub decreases-moments : goal.decreases-moments
decreases-moments l = length l.moments - l.at
