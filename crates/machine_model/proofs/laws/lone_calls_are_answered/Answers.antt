use Rattle.machine_model.proofs.Serving.{served_alone}
use Rattle.machine_model.proofs.laws.lone_calls_are_answered.Goals as goal

pub returns : goal.returns
returns c = served_alone
