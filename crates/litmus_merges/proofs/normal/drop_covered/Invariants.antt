use Rattle.litmus_merges.specs.Passing.{AreAlikeBefore}
use Rattle.litmus_merges.specs.Steps.{AreSound}
use Rattle.litmus_merges.proofs.normal.drop_covered.Given as goal

-- this step leaves the same of the steps so far
abbrev pub invariant-covered : goal.invariant-covered
invariant-covered g l = record {
  alike : AreAlikeBefore l.step l.fn.steps.items l.steps.items;
  sound : AreSound l.steps.items;
}
