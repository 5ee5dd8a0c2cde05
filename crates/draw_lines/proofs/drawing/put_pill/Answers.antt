use Rattle.draw_lines.specs.Drawing.{pill_text}
use Rattle.draw_lines.proofs.drawing.put_pill.Goals as goal

pub returns : goal.returns
unfolding pill_text
returns c = rw c.mark_place-place.ensures at rw c.deed_class-seen.ensures at rw c.middle-x.ensures.value at rw c.lane.ensures.value at rw c.pitch.ensures.value at c.put_bits.ensures
