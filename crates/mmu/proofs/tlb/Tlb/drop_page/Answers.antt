use Rattle.std.proofs.Common.{ap, ◌∙◌}
use Rattle.mmu.specs.Fills.{entries_of}
use Rattle.mmu.specs.Tlb.{tlb_without, is_at}
use Rattle.mmu.proofs.Distinct.{none_dropped}
use Rattle.mmu.proofs.Filings.{place_left}
use Rattle.mmu.proofs.tlb.Tlb.drop_page.Goals as goal

pub returns-in-Some : goal.returns-in-Some
returns-in-Some c =
    let t = c.args.self.now in
    ap (λ xs. entries_of xs c.let_go.new.self.fills.items) c.let_go.ensures.places ∙ ap (entries_of t.places) c.let_go.ensures.fills
    ∙ place_left t.places t.fills.items t.at t.free c.in-Some.place t.ordered t.distinct c.in-Some.ensures.held
    ∙ ap (λ p. tlb_without (is_at p) (entries_of t.places t.fills.items)) c.in-Some.ensures.found

pub returns-in_default : goal.returns-in_default
returns-in_default c =
    none_dropped (entries_of c.args.self.now.places c.args.self.now.fills.items) c.args.page (c.place_of.ensures.missing c.in_default.is)
