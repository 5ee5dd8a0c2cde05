use Rattle.std.proofs.Common.{◌≤◌, length}
use Rattle.import_lines.proofs.reading.last_break.Given as goal

abbrev pub invariant-bytes : goal.invariant-bytes
invariant-bytes l = record { within : l.at ≤ length l.text }

abbrev pub decreases-bytes : goal.decreases-bytes
decreases-bytes l = l.at
