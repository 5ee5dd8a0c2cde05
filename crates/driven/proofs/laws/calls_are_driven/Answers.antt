use Rattle.driven.proofs.Handled.{calls_driven}
use Rattle.driven.proofs.laws.calls_are_driven.Goals as goal

pub returns : goal.returns
returns c = calls_driven
