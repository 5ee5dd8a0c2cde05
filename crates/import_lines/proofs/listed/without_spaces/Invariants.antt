use Rattle.std.proofs.Common.{◌≡◌, ◌≤◌, ◌-◌, length, drop}
use Rattle.import_lines.specs.Listed.{from_name}
use Rattle.import_lines.proofs.listed.without_spaces.Given as goal

abbrev pub invariant-spaces : goal.invariant-spaces
invariant-spaces l = record { within : l.count ≤ length l.bytes; same : from_name (drop l.count l.bytes) ≡ from_name l.bytes }

abbrev pub decreases-spaces : goal.decreases-spaces
decreases-spaces l = length l.bytes - l.count
