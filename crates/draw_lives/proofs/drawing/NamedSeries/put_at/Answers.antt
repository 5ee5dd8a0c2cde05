use Rattle.draw_lives.specs.Lives.{page_text}
use Rattle.draw_lives.proofs.drawing.NamedSeries.put_at.Goals as goal

pub returns : goal.returns
unfolding page_text
returns c = rw c.from-at.ensures at rw c.from-all.ensures at rw c.count_of-count.ensures.value at rw c.plot_height.ensures.value at rw c.last_of-last.ensures at c.put_row.ensures
