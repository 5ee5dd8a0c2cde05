use Rattle.mmu.specs.Fills.{NoneBefore}
use Rattle.mmu.proofs.tlb.Tlb.oldest.Given as goal

abbrev pub invariant-gone : goal.invariant-gone
invariant-gone l = NoneBefore l.i l.self.fills.items
