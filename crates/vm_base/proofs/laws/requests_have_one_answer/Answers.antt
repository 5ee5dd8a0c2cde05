use Rattle.vm_base.proofs.OneAnswer.{one_answer}
use Rattle.vm_base.proofs.Answered.{answered}
use Rattle.vm_base.proofs.FirstPlace.{first_answer}
use Rattle.vm_base.proofs.laws.requests_have_one_answer.Goals as goal

pub returns : goal.returns
returns c = record { some = answered; one = one_answer; first = first_answer }
