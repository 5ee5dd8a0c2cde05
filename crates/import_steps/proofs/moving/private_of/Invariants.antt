use Rattle.std.proofs.Common.{◌≡◌, ◌≤◌, ◌-◌, ◌++◌, length, drop}
use Rattle.import_steps.specs.Taking.{private_of}
use Rattle.import_steps.proofs.moving.private_of.Given as goal

-- what was added, and what comes of the others
abbrev pub invariant-each : goal.invariant-each
invariant-each l = record {
  within : l.at ≤ length l.ranges;
  added : l.all.items ++ private_of (drop l.at l.ranges) ≡ private_of l.ranges;
}

abbrev pub decreases-each : goal.decreases-each
decreases-each l = length l.ranges - l.at
