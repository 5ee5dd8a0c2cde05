use Rattle.std.proofs.Common.{◌≡◌, ◌≤◌, ◌-◌, ◌++◌, drop, length}
use Rattle.import_steps.specs.Names.{name_shown}
use Rattle.import_steps.proofs.names.push_name.Given as goal

abbrev pub invariant-bytes : goal.invariant-bytes
invariant-bytes l = record {
  within : l.at ≤ length l.name;
  same : l.all.items ++ name_shown l.left (drop l.at l.name) ≡ l.initial.all.items ++ name_shown l.room l.name;
}

abbrev pub decreases-bytes : goal.decreases-bytes
decreases-bytes l = length l.name - l.at
