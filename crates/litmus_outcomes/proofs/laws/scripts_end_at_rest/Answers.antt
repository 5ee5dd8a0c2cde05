use Rattle.litmus_outcomes.proofs.Merged.{performed_end_at_rest}
use Rattle.litmus_outcomes.proofs.laws.scripts_end_at_rest.Goals as goal

pub returns : goal.returns
returns c = performed_end_at_rest
