use Rattle.draw_lines.specs.Canvas.{title_text}
use Rattle.draw_lines.proofs.canvas.put_title.Goals as goal

pub returns : goal.returns
unfolding title_text
returns c = rw c.saturating_sub-end.ensures at rw c.line_at-first.ensures at rw c.line_at-last.ensures at rw c.lanes_of-cores.ensures.value at c.put_all.ensures
