use Rattle.std.proofs.Common.{◌≡◌, ◌≤◌, ◌-◌, length, drop}
use Rattle.import_lackey.specs.Tracing.{is_mapped}
use Rattle.import_lackey.proofs.tracing.is_mapped.Given as goal

abbrev pub invariant-mappings : goal.invariant-mappings
invariant-mappings l = record { within : l.at ≤ length l.mapped; same : is_mapped l.page (drop l.at l.mapped) ≡ is_mapped l.page l.mapped }

abbrev pub decreases-mappings : goal.decreases-mappings
decreases-mappings l = length l.mapped - l.at
