use Rattle.draw_steps.specs.Drawing.{bar_text}
use Rattle.draw_steps.proofs.drawing.BarDrawableView.put.Goals as goal

pub returns : goal.returns
unfolding bar_text
returns c = rw c.request_name-name.ensures at rw c.bar_place-place.ensures at rw c.column-x.ensures.value at rw c.lane-y.ensures.value at c.put_parts.ensures
