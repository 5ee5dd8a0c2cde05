use Rattle.machine_model.proofs.Beside.{rests_beside}
use Rattle.machine_model.proofs.laws.steps_beside_rest.Goals as goal

pub returns : goal.returns
returns c = rests_beside
