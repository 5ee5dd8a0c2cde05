use Rattle.vm_base.proofs.RangeBytes.{pages_have}
use Rattle.vm_base.proofs.laws.pages_have_bytes.Goals as goal

pub returns : goal.returns
returns c = pages_have
