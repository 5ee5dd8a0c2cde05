use Rattle.draw_lines.specs.Canvas.{row_text}
use Rattle.draw_lines.proofs.canvas.RowsSeries.put_at.Goals as goal

pub returns : goal.returns
unfolding row_text
returns c = rw c.row_at-pages.ensures at rw c.row_y-y.ensures.value at c.put_parts.ensures
