use Rattle.std.proofs.Common.{◌≡◌, ◌≤◌, ◌-◌, length, drop}
use Rattle.import_maps.specs.Ranges.{has}
use Rattle.import_maps.proofs.ranges.has.Given as goal

abbrev pub invariant-each : goal.invariant-each
invariant-each l = record { within : l.at ≤ length l.ranges; same : has l.one (drop l.at l.ranges) ≡ has l.one l.ranges }

abbrev pub decreases-each : goal.decreases-each
decreases-each l = length l.ranges - l.at
