use Rattle.machine_model.proofs.Bracketed.{bracketed}
use Rattle.machine_model.proofs.laws.calls_are_bracketed.Goals as goal

pub returns : goal.returns
returns c = bracketed
