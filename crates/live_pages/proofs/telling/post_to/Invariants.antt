use Rattle.std.proofs.Common.{◌≡◌, ℕ, ◌≤◌, map, get_or, true}
use Rattle.std.specs.Prelude.{All, IsSome, Option}
use Rattle.vm_base.specs.Cores.{members}
use Rattle.mmu.specs.contracts.cpu.CpuHardware.TheImpl.{ghosts}
use Rattle.live_tree.proofs.Along.{so_far}
use Rattle.live_pages.specs.declared.telling.LockedCore.{LockedCore}
use Rattle.live_pages.specs.Posting.{core_of, number_of, told}
use Rattle.live_pages.proofs.telling.post_to.Given as goal

abbrev pub invariant-places : goal.invariant-places
invariant-places g l =
    let cpu = ghosts g.row.A g.A.Allocator g.A.Allocator-dict g.A.Clone g.A.Clone-dict g.A.Destruct-dict in
    record {
      some : All IsSome l.place-items;
      rest : (k : ℕ) (d : Option (LockedCore g.row.A.Denot)) → l.place-index ≤ k → get_or l.place-items k d ≡ get_or l.initial.place-items k d;
      told : (set : ℕ) → All (λ p. members set (number_of p) ≡ true) l.initial.place-items
          → map (core_of cpu.table cpu.tlb) l.place-items
          ≡ so_far (core_of cpu.table cpu.tlb) (told l.core set l.range) l.place-index (map (core_of cpu.table cpu.tlb) l.initial.place-items);
    }
