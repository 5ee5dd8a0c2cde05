use Rattle.std.proofs.Common.{◌≤◌, length}
use Rattle.litmus_merges.specs.Passing.{PassFrom}
use Rattle.litmus_merges.proofs.normal.covered.Given as goal

-- the steps from here on may change places with this one
abbrev pub invariant-back : goal.invariant-back
invariant-back l = record {
  within : l.at ≤ length l.steps;
  pass : PassFrom l.steps l.at l.step;
}

abbrev pub decreases-back : goal.decreases-back
decreases-back l = l.at
