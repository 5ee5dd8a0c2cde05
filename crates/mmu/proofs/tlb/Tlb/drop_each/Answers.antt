use Rattle.std.proofs.Common.{◌∙◌, arith}
use Rattle.mmu.specs.Fills.{entries_of}
use Rattle.mmu.proofs.Distinct.{from_first, page_more, to_end}
use Rattle.mmu.proofs.tlb.Tlb.drop_each.Goals as goal

pub pages-init : goal.pages-init
pages-init c = from_first c.args.range (entries_of c.args.self.now.places c.args.self.now.fills.items)

pub pages-preserved : goal.pages-preserved
pages-preserved c =
    c.drop_page.ensures ∙ page_more c.args.range c.pages.page (entries_of c.pages.self.places c.pages.self.fills.items)
    (entries_of c.args.self.now.places c.args.self.now.fills.items) (omega arith) (omega (arith, c.pages-test.true)) c.pages.invariant

pub returns : goal.returns
returns c =
    c.pages.invariant ∙ to_end c.args.range c.pages.page (entries_of c.args.self.now.places c.args.self.now.fills.items) (omega (arith, c.pages-test.false))
