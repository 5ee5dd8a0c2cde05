use Rattle.std.proofs.Common.{◌≡◌, ◌≤◌, ◌-◌, drop, length}
use Rattle.word_import.specs.Status.{parts_status}
use Rattle.word_import.proofs.importing.status_of_parts.Given as goal

abbrev pub invariant-parts : goal.invariant-parts
invariant-parts l = record { within : l.at ≤ length l.parts; same : parts_status (drop l.at l.parts) ≡ parts_status l.parts }

abbrev pub decreases-parts : goal.decreases-parts
decreases-parts l = length l.parts - l.at
