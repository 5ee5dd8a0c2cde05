use Rattle.draw_lives.specs.Lives.{frame_text}
use Rattle.draw_lives.proofs.drawing.put_frame.Goals as goal

pub returns : goal.returns
unfolding frame_text
returns c = rw c.plot_height-high.ensures.value at rw c.from-rows.ensures at c.put_all.ensures
