use Rattle.std.proofs.Common.{◌≡◌, ◌≤◌, ◌-◌, ◌++◌, length, drop}
use Rattle.state_changes.specs.Applied.{applied}
use Rattle.state_changes.proofs.applying.apply_to.Given as goal

abbrev pub invariant-parts : goal.invariant-parts
invariant-parts l = record {
  within : l.at ≤ length l.parts;
  same : l.out.items ++ applied (drop l.at l.parts) l.fresh l.rest ≡ l.initial.out.items ++ applied l.parts l.added l.text;
}

abbrev pub decreases-parts : goal.decreases-parts
decreases-parts l = length l.parts - l.at
