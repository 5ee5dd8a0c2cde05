use Rattle.draw_lives.specs.Lives.{life_text, rect_text}
use Rattle.draw_steps.proofs.Joined.{grow}
use Rattle.draw_lives.proofs.drawing.StretchDrawableNamed.put.Goals as goal

pub returns : goal.returns
unfolding life_text rect_text
returns c =
    let rect =
    rw c.prot_class-class.ensures at rw c.kind_class-kind.ensures at rw c.from-row.ensures at rw c.life_end.ensures at rw c.saturating_sub-width.ensures at c.in_ok-put_all.ensures in
    grow c.args.out.now.items _ _ c.put_all.new.out.items _ rect c.in_ok-put_title.ensures
