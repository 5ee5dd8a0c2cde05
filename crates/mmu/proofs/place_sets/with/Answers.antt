use Rattle.vm_base.proofs.CoreSets.{members-set}
use Rattle.mmu.proofs.place_sets.with.Goals as goal

pub returns : goal.returns
returns c = members-set c.args.set c.args.place c.requires
