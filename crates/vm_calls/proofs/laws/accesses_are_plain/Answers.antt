use Rattle.vm_calls.proofs.Accesses.{access_answered}
use Rattle.vm_calls.proofs.laws.accesses_are_plain.Goals as goal

pub returns : goal.returns
returns c = λ t modes core request touch is y u. access_answered t modes core request touch is y u
