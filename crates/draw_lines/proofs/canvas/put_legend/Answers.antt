use Rattle.draw_lines.specs.Canvas.{legend_text}
use Rattle.draw_lines.proofs.canvas.put_legend.Goals as goal

pub returns : goal.returns
unfolding legend_text
returns c = c.put_all.ensures
