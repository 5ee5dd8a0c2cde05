use Rattle.std.proofs.Common.{◌≡◌, ◌≤◌, ◌-◌, drop, length}
use Rattle.state_changes.specs.Pages.{all_changed}
use Rattle.state_changes.proofs.behind.text_after.Given as goal

-- the steps that are left make the same of the text so far
abbrev pub invariant-moments : goal.invariant-moments
invariant-moments l = record {
  within : l.at ≤ length l.moments;
  same : all_changed l.after.items (drop l.at l.moments) ≡ all_changed l.text l.moments;
}

abbrev pub decreases-moments : goal.decreases-moments
decreases-moments l = length l.moments - l.at
