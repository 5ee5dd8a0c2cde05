use Rattle.std.proofs.Common.{◌≡◌, ◌≤◌, ◌-◌, length, drop}
use Rattle.import_forms.specs.Stamps.{are_marks}
use Rattle.import_forms.proofs.stamps.are_marks.Given as goal

abbrev pub invariant-bytes : goal.invariant-bytes
invariant-bytes l = record { within : l.at ≤ length l.bytes; same : are_marks (drop l.at l.bytes) ≡ are_marks l.bytes }

abbrev pub decreases-bytes : goal.decreases-bytes
decreases-bytes l = length l.bytes - l.at
