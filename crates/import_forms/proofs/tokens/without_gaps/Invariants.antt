use Rattle.std.proofs.Common.{◌≡◌, ◌≤◌, ◌-◌, length, drop}
use Rattle.import_forms.specs.Tokens.{from_token}
use Rattle.import_forms.proofs.tokens.without_gaps.Given as goal

abbrev pub invariant-gaps : goal.invariant-gaps
invariant-gaps l = record { within : l.count ≤ length l.bytes; same : from_token (drop l.count l.bytes) ≡ from_token l.bytes }

abbrev pub decreases-gaps : goal.decreases-gaps
decreases-gaps l = length l.bytes - l.count
