use Rattle.draw_lines.specs.Drawing.{stretch_text}
use Rattle.draw_lines.proofs.drawing.StretchDrawableNamedSheet.put.Goals as goal

pub returns : goal.returns
unfolding stretch_text
returns c = rw c.prot_class-class.ensures at rw c.stretch_place-place.ensures at rw c.middle-x.ensures.value at rw c.row_y-y.ensures.value at c.put_bits.ensures
