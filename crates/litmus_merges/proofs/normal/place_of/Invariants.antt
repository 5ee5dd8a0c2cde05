use Rattle.std.proofs.Common.{◌≤◌, length}
use Rattle.litmus_merges.specs.Passing.{PassFrom}
use Rattle.litmus_merges.proofs.normal.place_of.Given as goal

-- the steps from here on may change places with this one
abbrev pub invariant-back : goal.invariant-back
invariant-back l = record {
  here : l.at ≤ l.place;
  within : l.place ≤ length l.steps;
  pass : PassFrom l.steps l.at l.step;
}

abbrev pub decreases-back : goal.decreases-back
decreases-back l = l.at
