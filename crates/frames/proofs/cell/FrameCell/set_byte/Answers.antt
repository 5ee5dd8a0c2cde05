use Rattle.std.proofs.Common.{◌≡◌, ◌∙◌, length, rules, refl, sym, ap}
use Rattle.vm_base.specs.Functions.{put}
use Rattle.vm_base.specs.Plain.{page_bytes}
use Rattle.frames.specs.Pages.{all_pages}
use Rattle.frames.specs.Parts.{CellParts, cell_bytes}
use Rattle.frames.proofs.PageLists.{pages-first, pages-empty}
use Rattle.frames.proofs.cell.FrameCell.set_byte.Goals as goal

pub returns-then-is_empty-clause-bytes : goal.returns-then-is_empty-clause-bytes
returns-then-is_empty-clause-bytes g c =
    let pages = c.self.inside.pages.items in
    let none : length c.self.inside.pages.items ≡ 0 = search rules in
    let len : c.self.inside.pages.len ≡ 0 = search rules in
    pages-first pages c.push.new.pages.items c.self.inside.pages.len (page_bytes c.page_with.result 0) c.push.ensures.bytes len
    ∙ (c.page_with.ensures ∙ (ap (λ b. put b c.args.offset c.args.byte) (sym (pages-empty pages none))
    ∙ ap (λ (v : CellParts). put (cell_bytes v) c.args.offset c.args.byte) c.self.view_is))

pub returns-else-is_empty-clause-bytes : goal.returns-else-is_empty-clause-bytes
returns-else-is_empty-clause-bytes g c =
    let pages = c.self.inside.pages.items in
    pages-first pages c.set_byte.new.pages.items 0 (put (all_pages pages 0) c.args.offset c.args.byte) c.set_byte.ensures.bytes refl
    ∙ ap (λ (v : CellParts). put (cell_bytes v) c.args.offset c.args.byte) c.self.view_is
