use Rattle.std.proofs.Common.{◌≡◌, ◌≤◌, ◌-◌, length, drop}
use Rattle.draw_lives.specs.Joining.{row_goes_on}
use Rattle.draw_lives.proofs.joining.row_goes_on.Given as goal

abbrev pub invariant-lives : goal.invariant-lives
invariant-lives l = record {
  above : l.at ≤ length l.above;
  below : l.at ≤ length l.below;
  same : row_goes_on (drop l.at l.above) (drop l.at l.below) ≡ row_goes_on l.above l.below;
}

abbrev pub decreases-lives : goal.decreases-lives
decreases-lives l = length l.above - l.at
