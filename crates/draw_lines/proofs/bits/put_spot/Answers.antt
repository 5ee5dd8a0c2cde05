use Rattle.draw_lines.specs.Bits.{spot_text}
use Rattle.draw_lines.proofs.bits.put_spot.Goals as goal

pub returns : goal.returns
unfolding spot_text
returns c = rw c.column-x.ensures.value at rw c.words_y-y.ensures at rw c.turn_words.ensures at c.put_all.ensures
