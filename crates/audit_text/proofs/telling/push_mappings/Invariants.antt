use Rattle.std.proofs.Common.{◌≡◌, ◌≤◌, ◌-◌, ◌++◌, length, take}
use Rattle.std.specs.List.{flat_map}
use Rattle.audit_text.specs.Ends.{mapping_text}
use Rattle.audit_text.proofs.telling.push_mappings.Given as goal

abbrev pub invariant-lines : goal.invariant-lines
invariant-lines g l = record {
  within : l.at ≤ length l.around;
  written : l.all.items ≡ l.initial.all.items ++ flat_map mapping_text (take l.at l.around);
}

abbrev pub decreases-lines : goal.decreases-lines
decreases-lines g l = length l.around - l.at
