use Rattle.std.proofs.Common.{◌≡◌, ◌≤◌, ◌-◌, ◌++◌, length, drop}
use Rattle.state_changes.specs.Data.{parts_text}
use Rattle.state_changes.proofs.data.put_parts.Given as goal

abbrev pub invariant-parts : goal.invariant-parts
invariant-parts l = record {
  within : l.at ≤ length l.parts;
  same : l.out.items ++ parts_text (drop l.at l.parts) l.fresh ≡ l.initial.out.items ++ parts_text l.parts l.added;
}

abbrev pub decreases-parts : goal.decreases-parts
decreases-parts l = length l.parts - l.at
