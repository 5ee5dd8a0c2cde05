use Rattle.std.proofs.Common.{◌≡◌, ◌≤◌, ◌-◌, length, drop}
use Rattle.import_steps.specs.Taking.{mapped_all, so_far}
use Rattle.import_steps.proofs.moving.take_ranges.Given as goal

-- what the others add to what is there
abbrev pub invariant-each : goal.invariant-each
invariant-each l = record {
  within : l.at ≤ length l.ranges;
  same : mapped_all (so_far l.taken) l.thread (drop l.at l.ranges) ≡ mapped_all (so_far l.initial.taken) l.thread l.ranges;
}

abbrev pub decreases-each : goal.decreases-each
decreases-each l = length l.ranges - l.at
