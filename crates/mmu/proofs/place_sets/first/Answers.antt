use Rattle.std.proofs.Common.{arith}
use Rattle.vm_base.proofs.CoreSets.{members-least}
use Rattle.mmu.proofs.place_sets.first.Goals as goal

pub returns-clause-member : goal.returns-clause-member
returns-clause-member c = members-least c.args.set c.requires (omega arith)
