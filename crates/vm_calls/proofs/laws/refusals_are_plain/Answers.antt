use Rattle.vm_calls.proofs.Accesses.{refusal_answered}
use Rattle.vm_calls.proofs.laws.refusals_are_plain.Goals as goal

pub returns : goal.returns
returns c = λ t files core request reply h is. refusal_answered t files core request reply h is
