use Rattle.draw_steps.specs.Drawing.{stretch_text}
use Rattle.draw_steps.proofs.drawing.StretchDrawableNamedView.put.Goals as goal

pub returns : goal.returns
unfolding stretch_text
returns c =
    rw c.prot_class-class.ensures at rw c.stretch_place-place.ensures at rw c.column-x.ensures.value at rw c.row_y-y.ensures.value at c.put_parts.ensures
