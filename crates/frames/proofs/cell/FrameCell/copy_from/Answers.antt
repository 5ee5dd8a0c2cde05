use Rattle.std.proofs.Common.{◌≡◌, ◌∙◌, length, rules, sym, ap}
use Rattle.frames.specs.Parts.{CellParts, cell_bytes}
use Rattle.frames.proofs.PageLists.{pages-empty}
use Rattle.frames.proofs.cell.FrameCell.copy_from.Goals as goal

pub returns-then-is_empty-clause-bytes : goal.returns-then-is_empty-clause-bytes
returns-then-is_empty-clause-bytes g c =
    let none : length c.from.inside.pages.items ≡ 0 = search rules in
    c.fill_zero.ensures.bytes ∙ (sym (pages-empty c.from.inside.pages.items none) ∙ ap (λ (v : CellParts). cell_bytes v) c.from.view_is)
