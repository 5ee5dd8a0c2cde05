use Rattle.vm_calls.proofs.Alike.{decision_alike}
use Rattle.vm_calls.proofs.laws.decisions_look_at_footprints.Goals as goal

pub returns : goal.returns
returns c = λ files s t aim d same dec. decision_alike files s t aim d same dec
