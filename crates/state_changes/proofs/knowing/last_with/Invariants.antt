use Rattle.std.proofs.Common.{◌≡◌, ◌≤◌, ◌+◌, ◌-◌, drop, length, max}
use Rattle.trace.specs.Numbered.{texts_of}
use Rattle.state_changes.specs.Knowing.{last_with}
use Rattle.state_changes.proofs.knowing.last_with.Given as goal

abbrev pub invariant-texts : goal.invariant-texts
invariant-texts l = record {
  within : l.at ≤ length l.texts;
  low : l.last ≤ l.at;
  same : max l.last (last_with (l.at + 1) l.line (texts_of (drop l.at l.texts))) ≡ last_with 1 l.line (texts_of l.texts);
}

abbrev pub decreases-texts : goal.decreases-texts
decreases-texts l = length l.texts - l.at
