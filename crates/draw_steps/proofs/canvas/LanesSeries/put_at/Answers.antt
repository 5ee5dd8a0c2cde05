use Rattle.draw_steps.specs.Canvas.{lane_text}
use Rattle.draw_steps.proofs.canvas.LanesSeries.put_at.Goals as goal

pub returns : goal.returns
unfolding lane_text
returns c = rw c.from-number.ensures at rw c.from-steps.ensures at c.put_parts.ensures
