use Rattle.std.proofs.Common.{◌≡◌, ◌≤◌, ◌-◌, length, drop}
use Rattle.import_forms.specs.Looks.{are_text}
use Rattle.import_forms.proofs.looks.are_text.Given as goal

abbrev pub invariant-bytes : goal.invariant-bytes
invariant-bytes l = record { within : l.at ≤ length l.bytes; same : are_text (drop l.at l.bytes) ≡ are_text l.bytes }

abbrev pub decreases-bytes : goal.decreases-bytes
decreases-bytes l = length l.bytes - l.at
