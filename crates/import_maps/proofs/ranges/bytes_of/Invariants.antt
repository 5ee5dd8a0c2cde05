use Rattle.std.proofs.Common.{◌≡◌, ◌≤◌, length, drop}
use Rattle.import_maps.specs.Ranges.{bytes_of}
use Rattle.import_maps.proofs.ranges.bytes_of.Given as goal

abbrev pub invariant-each : goal.invariant-each
invariant-each l = record { within : l.at ≤ length l.ranges; same : l.count ≡ bytes_of (drop l.at l.ranges) }

abbrev pub decreases-each : goal.decreases-each
decreases-each l = l.at
