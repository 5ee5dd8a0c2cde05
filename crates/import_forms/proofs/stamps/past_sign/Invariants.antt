use Rattle.std.proofs.Common.{◌≡◌, ◌≤◌, ◌-◌, length, drop}
use Rattle.import_forms.specs.Stamps.{past_sign}
use Rattle.import_forms.proofs.stamps.past_sign.Given as goal

abbrev pub invariant-bytes : goal.invariant-bytes
invariant-bytes l = record { within : l.at ≤ length l.bytes; same : past_sign (drop l.at l.bytes) ≡ past_sign l.bytes }

abbrev pub decreases-bytes : goal.decreases-bytes
decreases-bytes l = length l.bytes - l.at
