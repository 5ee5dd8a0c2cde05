use Rattle.draw_lives.specs.Lives.{tick_text}
use Rattle.draw_lives.proofs.drawing.TicksSeries.put_at.Goals as goal

pub returns : goal.returns
unfolding tick_text
returns c = rw c.from-at.ensures at rw c.saturating_mul-step.ensures at rw c.plot_height-bottom.ensures.value at c.put_parts.ensures
