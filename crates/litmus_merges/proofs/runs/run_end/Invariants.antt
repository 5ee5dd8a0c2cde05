use Rattle.std.proofs.Common.{◌<◌, ◌≤◌}
use Rattle.litmus_merges.specs.Runs.{AreOneRunSoFar}
use Rattle.litmus_merges.proofs.runs.run_end.Given as goal

-- the steps so far change the pages up to there alike
abbrev pub invariant-steps : goal.invariant-steps
invariant-steps l = record {
  further : l.page < l.last;
  within : l.last ≤ l.end;
  run : AreOneRunSoFar l.steps l.at l.page l.last;
}
