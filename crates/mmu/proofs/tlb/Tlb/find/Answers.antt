use Rattle.std.proofs.Common.{sym}
use Rattle.mmu.proofs.Filings.{page_found}
use Rattle.mmu.proofs.tlb.Tlb.find.Goals as goal

pub returns-in-Some : goal.returns-in-Some
returns-in-Some c =
    let t = c.args.self.now in
    sym (page_found t.places t.fills.items t.at t.free c.in-Some.place c.args.page t.ordered t.distinct c.in-Some.ensures.held c.in-Some.ensures.found)
