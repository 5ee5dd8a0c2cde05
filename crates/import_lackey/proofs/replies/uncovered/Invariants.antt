use Rattle.std.proofs.Common.{◌≡◌, ◌≤◌, ◌-◌, length, drop}
use Rattle.import_lackey.specs.Replies.{uncovered}
use Rattle.import_lackey.proofs.replies.uncovered.Given as goal

abbrev pub invariant-known : goal.invariant-known
invariant-known l = record {
  within : l.at ≤ length l.known;
  same : uncovered l.range l.left (drop l.at l.known) ≡ uncovered l.range l.count l.known;
}

abbrev pub decreases-known : goal.decreases-known
decreases-known l = length l.known - l.at
