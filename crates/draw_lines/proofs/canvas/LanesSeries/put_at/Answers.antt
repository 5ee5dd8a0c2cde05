use Rattle.draw_lines.proofs.canvas.LanesSeries.put_at.Goals as goal

pub returns : goal.returns
returns c = rw c.new.ensures at c.put_lane_of.ensures
