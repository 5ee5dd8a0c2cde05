use Rattle.mmu.specs.Fills.{IsMovedUp}
use Rattle.mmu.proofs.tlb.moved_up.Given as goal

abbrev pub invariant-order : goal.invariant-order
invariant-order l = IsMovedUp l.fills l.initial.at l.i l.moved.items l.at
