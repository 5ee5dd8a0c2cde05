use Rattle.std.proofs.Common.{arith}
use Rattle.std.proofs.lemmas.Nat.{and_le_l}
use Rattle.vm_base.proofs.CoreSets.{members-clear}
use Rattle.mmu.proofs.Filings.{less_without}
use Rattle.mmu.proofs.place_sets.without.Goals as goal

pub returns-clause-members : goal.returns-clause-members
returns-clause-members c = members-clear c.args.set c.args.place (omega arith) c.requires

pub returns-clause-less : goal.returns-clause-less
returns-clause-less c = less_without c.args.set _ c.args.place (and_le_l c.args.set _) (members-clear c.args.set c.args.place (omega arith) c.requires)
