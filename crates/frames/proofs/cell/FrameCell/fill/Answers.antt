use Rattle.std.proofs.Common.{◌≡◌, ◌∙◌, rules, refl}
use Rattle.vm_base.specs.Plain.{page_bytes}
use Rattle.frames.proofs.PageLists.{pages-first}
use Rattle.frames.proofs.cell.FrameCell.fill.Goals as goal

pub returns-then-is_empty-clause-bytes : goal.returns-then-is_empty-clause-bytes
returns-then-is_empty-clause-bytes g c =
    let pages = c.self.inside.pages.items in
    let len : c.self.inside.pages.len ≡ 0 = search rules in
    pages-first pages c.push.new.pages.items c.self.inside.pages.len (page_bytes c.page_of.result 0) c.push.ensures.bytes len ∙ c.page_of.ensures

pub returns-else-is_empty-clause-bytes : goal.returns-else-is_empty-clause-bytes
returns-else-is_empty-clause-bytes g c =
    let pages = c.self.inside.pages.items in
    pages-first pages c.fill.new.pages.items 0 (page_bytes c.args.bytes.now 0) c.fill.ensures.bytes refl
