use Rattle.draw_lines.specs.Canvas.{column_text}
use Rattle.draw_lines.proofs.canvas.ColumnsSeries.put_at.Goals as goal

pub returns : goal.returns
unfolding column_text
returns c =
    rw c.line_at-line.ensures at rw c.across-x.ensures.value at rw c.wide.ensures.value at c.put_parts.ensures
