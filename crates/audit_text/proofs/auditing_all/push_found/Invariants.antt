use Rattle.std.proofs.Common.{◌≡◌, ◌≤◌, ◌-◌, ◌++◌, length, take}
use Rattle.std.specs.List.{flat_map}
use Rattle.audit_text.specs.Ends.{head_text}
use Rattle.audit_text.proofs.auditing_all.push_found.Given as goal

abbrev pub invariant-lines : goal.invariant-lines
invariant-lines g l = record {
  within : l.at ≤ length l.found;
  written : l.all.items ≡ l.initial.all.items ++ flat_map head_text (take l.at l.found);
}

abbrev pub decreases-lines : goal.decreases-lines
decreases-lines g l = length l.found - l.at
