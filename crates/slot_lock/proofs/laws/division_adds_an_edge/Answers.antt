use Rattle.std.proofs.Common.{◌^◌}
use Rattle.slot_lock.proofs.EdgeCounts.{edges_below-Divides, edges_below-most}
use Rattle.slot_lock.proofs.laws.division_adds_an_edge.Goals as goal

pub returns-clause-grows : goal.returns-clause-grows
returns-clause-grows c = λ s t owner at l h. edges_below-Divides s t owner at (2 ^ 35) h l

pub returns-clause-bounded : goal.returns-clause-bounded
returns-clause-bounded c = λ s. edges_below-most s (2 ^ 35)
