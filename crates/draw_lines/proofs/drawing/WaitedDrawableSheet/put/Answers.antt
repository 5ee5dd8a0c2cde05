use Rattle.draw_lines.specs.Drawing.{wait_text}
use Rattle.draw_lines.proofs.drawing.WaitedDrawableSheet.put.Goals as goal

pub returns : goal.returns
unfolding wait_text
returns c = rw c.wait_line-line.ensures at c.put_bits.ensures
