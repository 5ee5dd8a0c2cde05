use Rattle.machine_model.proofs.Ending.{served_at_last}
use Rattle.machine_model.proofs.laws.waiting_calls_are_answered.Goals as goal

pub returns : goal.returns
returns c = served_at_last
