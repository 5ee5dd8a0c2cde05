use Rattle.std.proofs.Common.{◌≡◌, ◌≤◌, ◌-◌, ◌++◌, length, drop}
use Rattle.std.specs.List.{flat_map}
use Rattle.import_lackey.specs.Replies.{outside}
use Rattle.import_lackey.proofs.replies.without.Given as goal

-- what is outside so far, and what will be
abbrev pub invariant-known : goal.invariant-known
invariant-known l = record {
  within : l.at ≤ length l.known;
  rest : l.rest.items ++ flat_map (outside l.gone) (drop l.at l.known) ≡ flat_map (outside l.gone) l.known;
}

abbrev pub decreases-known : goal.decreases-known
decreases-known l = length l.known - l.at
