use Rattle.std.proofs.Common.{◌∙◌, [], refl}
use Rattle.vm_base.specs.Plain.{page_bytes}
use Rattle.frames.proofs.PageLists.{pages-first, page-none}
use Rattle.frames.proofs.cell.FrameCell.fill_zero.Goals as goal

pub returns-then-not-is_empty-clause-bytes : goal.returns-then-not-is_empty-clause-bytes
returns-then-not-is_empty-clause-bytes g c =
    let pages = c.self.inside.pages.items in
    pages-first pages c.fill.new.pages.items 0 (page_bytes [] 0) c.fill.ensures.bytes refl ∙ page-none
