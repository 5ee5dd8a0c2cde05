use Rattle.std.proofs.Common.{◌≡◌, ◌≤◌, ◌-◌, length, drop}
use Rattle.import_forms.specs.Said.{behind}
use Rattle.import_forms.proofs.making.behind.Given as goal

abbrev pub invariant-places : goal.invariant-places
invariant-places l = record { within : l.at ≤ length l.bytes; same : behind l.name (drop l.at l.bytes) ≡ behind l.name l.bytes }

abbrev pub decreases-places : goal.decreases-places
decreases-places l = length l.bytes - l.at
