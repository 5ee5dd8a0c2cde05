use Rattle.draw_lines.specs.Drawing.{bar_text}
use Rattle.draw_lines.proofs.drawing.BarDrawableSheet.put.Goals as goal

pub returns : goal.returns
unfolding bar_text
returns c = rw c.request_name-name.ensures at rw c.bar_place-place.ensures at rw c.first_line-first.ensures at rw c.second_line-second.ensures at c.put_bits.ensures
