use Rattle.mmu.proofs.Waits.{empty_sets}
use Rattle.mmu.proofs.inboxes.nobody_waits.Goals as goal

pub returns : goal.returns
returns c = empty_sets 64 c.empty.result c.empty.ensures
