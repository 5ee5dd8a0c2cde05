use Rattle.draw_steps.specs.Canvas.{legend_text}
use Rattle.draw_steps.proofs.canvas.put_legend.Goals as goal

pub returns : goal.returns
unfolding legend_text
returns c = c.put_parts.ensures
