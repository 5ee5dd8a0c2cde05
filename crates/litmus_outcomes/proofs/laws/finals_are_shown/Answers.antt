use Rattle.litmus_outcomes.proofs.Merged.{finals_shown}
use Rattle.litmus_outcomes.proofs.laws.finals_are_shown.Goals as goal

pub returns : goal.returns
returns c = finals_shown
