use Rattle.std.proofs.Common.{◌≡◌, ◌≤◌, ◌-◌, length, drop}
use Rattle.import_steps.specs.Taking.{grown_all, so_far}
use Rattle.import_steps.proofs.moving.take_grown.Given as goal

-- what the others add to what is there
abbrev pub invariant-each : goal.invariant-each
invariant-each l = record {
  within : l.at ≤ length l.ranges;
  same : grown_all (so_far l.taken) l.thread l.from l.to l.end l.more (drop l.at l.ranges) ≡ grown_all (so_far l.initial.taken) l.thread l.from l.to l.end l.more l.ranges;
}

abbrev pub decreases-each : goal.decreases-each
decreases-each l = length l.ranges - l.at
