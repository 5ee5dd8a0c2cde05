use Rattle.std.proofs.Common.{◌≡◌, ◌&&◌, nat_lt}
use Rattle.vm_base.specs.Functions.{has}
use Rattle.mmu.specs.Tlb.{tlb_without}
use Rattle.mmu.specs.Fills.{entries_of}
use Rattle.mmu.proofs.tlb.Tlb.drop_each.Given as goal

abbrev pub invariant-pages : goal.invariant-pages
invariant-pages l =
    entries_of l.self.places l.self.fills.items
    ≡ tlb_without (λ p. has l.fn.range p && nat_lt p l.page) (entries_of l.fn.self.places l.fn.self.fills.items)
