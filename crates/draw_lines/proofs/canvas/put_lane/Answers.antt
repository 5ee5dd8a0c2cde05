use Rattle.draw_lines.specs.Canvas.{lane_text}
use Rattle.draw_lines.proofs.canvas.put_lane.Goals as goal

pub returns : goal.returns
unfolding lane_text
returns c = rw c.from-columns.ensures at rw c.lane-y.ensures.value at rw c.across.ensures.value at rw c.pitch.ensures.value at c.put_parts.ensures
