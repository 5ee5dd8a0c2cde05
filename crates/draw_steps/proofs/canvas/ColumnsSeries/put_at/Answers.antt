use Rattle.draw_steps.specs.Canvas.{column_text}
use Rattle.draw_steps.proofs.canvas.ColumnsSeries.put_at.Goals as goal

pub returns : goal.returns
unfolding column_text
returns c = rw c.from-ahead.ensures at rw c.saturating_add-step.ensures at c.put_parts.ensures
