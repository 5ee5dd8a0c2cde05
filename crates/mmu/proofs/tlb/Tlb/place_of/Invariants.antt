use Rattle.std.proofs.Common.{slice_index}
use Rattle.mmu.specs.Tlb.{page_hash}
use Rattle.mmu.proofs.Filings.{IsPassed}
use Rattle.mmu.proofs.tlb.Tlb.place_of.Given as goal

abbrev pub invariant-set : goal.invariant-set
invariant-set l = IsPassed (slice_index l.self.sets (page_hash l.page)) l.self.places l.page l.rest

abbrev pub decreases-set : goal.decreases-set
decreases-set l = l.rest
