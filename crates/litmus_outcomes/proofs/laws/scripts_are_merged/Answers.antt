use Rattle.litmus_outcomes.proofs.Merged.{performed_are_combinations}
use Rattle.litmus_outcomes.proofs.laws.scripts_are_merged.Goals as goal

pub returns : goal.returns
returns c = performed_are_combinations
