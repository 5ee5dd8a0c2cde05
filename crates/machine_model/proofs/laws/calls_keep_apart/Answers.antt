use Rattle.machine_model.proofs.Apart.{kept_apart}
use Rattle.machine_model.proofs.laws.calls_keep_apart.Goals as goal

pub returns : goal.returns
returns c = kept_apart
