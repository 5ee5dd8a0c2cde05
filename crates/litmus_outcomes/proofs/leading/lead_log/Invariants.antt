use Rattle.litmus_merges.specs.Steps.{AreSound}
use Rattle.litmus_outcomes.proofs.Led.{LeadsOn}
use Rattle.litmus_outcomes.proofs.leading.lead_log.Given as goal

-- the steps of the entries so far
abbrev pub invariant-entries : goal.invariant-entries
invariant-entries g l = record {
  sound : AreSound l.steps.items;
  leads : LeadsOn l.objects l.requests l.log l.k l.steps.items;
}
