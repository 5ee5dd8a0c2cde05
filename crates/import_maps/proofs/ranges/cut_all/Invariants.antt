use Rattle.std.proofs.Common.{◌≡◌, ◌≤◌, ◌-◌, ◌++◌, length, drop}
use Rattle.std.specs.List.{flat_map}
use Rattle.import_maps.specs.Ranges.{cut}
use Rattle.import_maps.proofs.ranges.cut_all.Given as goal

-- what was added, and what comes of the others
abbrev pub invariant-each : goal.invariant-each
invariant-each l = record {
  within : l.at ≤ length l.ranges;
  added : l.all.items ++ flat_map (cut l.from l.end) (drop l.at l.ranges) ≡ flat_map (cut l.from l.end) l.ranges;
}

abbrev pub decreases-each : goal.decreases-each
decreases-each l = length l.ranges - l.at
