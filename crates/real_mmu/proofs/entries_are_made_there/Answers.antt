use Rattle.real_mmu.proofs.Entering.{all_enter}
use Rattle.real_mmu.proofs.entries_are_made_there.Goals as goal

pub returns : goal.returns
returns c = all_enter
