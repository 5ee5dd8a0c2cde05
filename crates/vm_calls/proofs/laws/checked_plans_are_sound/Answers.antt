use Rattle.vm_calls.proofs.Passed.{checked_is_sound}
use Rattle.vm_calls.proofs.laws.checked_plans_are_sound.Goals as goal

pub returns : goal.returns
returns c = λ modes core request plan few is. checked_is_sound modes core request plan few is
