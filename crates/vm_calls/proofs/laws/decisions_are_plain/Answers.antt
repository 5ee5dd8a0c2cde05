use Rattle.vm_calls.proofs.Plainly.{plain}
use Rattle.vm_calls.proofs.laws.decisions_are_plain.Goals as goal

pub returns : goal.returns
returns c = λ t files s core request aim d few h is target some dec. plain t files s core request aim d few h is target some dec
