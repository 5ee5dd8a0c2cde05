use Rattle.real_mmu.proofs.Due.{fills_are_due}
use Rattle.real_mmu.proofs.fills_are_due.Goals as goal

pub returns : goal.returns
returns c = fills_are_due
