use Rattle.draw_lines.specs.Drawing.{danger_text}
use Rattle.draw_lines.proofs.drawing.DangerDrawableSheet.put.Goals as goal

pub returns : goal.returns
unfolding danger_text
returns c = rw c.danger_place-place.ensures at c.put_bits.ensures
