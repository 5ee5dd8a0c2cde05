use Rattle.std.proofs.Common.{◌≡◌, ◌≤◌, ◌-◌, ◌++◌, length, drop}
use Rattle.import_maps.specs.Ranges.{parts_of}
use Rattle.import_maps.proofs.ranges.parts_of.Given as goal

-- what was added, and what comes of the others
abbrev pub invariant-each : goal.invariant-each
invariant-each l = record {
  within : l.at ≤ length l.ranges;
  added : l.all.items ++ parts_of l.from l.end (drop l.at l.ranges) ≡ parts_of l.from l.end l.ranges;
}

abbrev pub decreases-each : goal.decreases-each
decreases-each l = length l.ranges - l.at
