use Rattle.mmu.specs.contracts.cpu.CpuHardware.TheImpl.{ghosts}
use Rattle.live_pages.proofs.Posting.{told_at}
use Rattle.live_pages.proofs.telling.tell.Goals as goal

pub returns-clause-told : goal.returns-clause-told
returns-clause-told g c =
    let cpu = ghosts g.row.A g.A.Allocator g.A.Allocator-dict g.A.Clone g.A.Clone-dict g.A.Destruct-dict in
    λ set member. told_at cpu.table cpu.tlb c.args.place.now c.in-Some.place c.deref_mut.result.now c.tell_one.new.state c.args.core set c.args.range
    c.in-Some.is c.deref_mut.ensures.value (c.tell_one.ensures.told set) c.tell_one.ensures.counts member
