use Rattle.std.proofs.Common.{◌≡◌, ◌++◌, length, take, drop, map}
use Rattle.vm_base.specs.Functions.{has}
use Rattle.mmu.specs.Fills.{filled_at}
use Rattle.mmu.proofs.Orders.{drop_if}
use Rattle.mmu.proofs.tlb.Tlb.drop_within.Given as goal

abbrev pub invariant-fills : goal.invariant-fills
invariant-fills l = record {
  fills : l.self.fills.items ≡ map (drop_if (filled_at l.fn.self.places) (has l.range)) (take l.i l.fn.self.fills.items) ++ drop l.i l.fn.self.fills.items;
  long : length l.self.fills.items ≡ length l.fn.self.fills.items;
  places : l.self.places ≡ l.fn.self.places;
}
