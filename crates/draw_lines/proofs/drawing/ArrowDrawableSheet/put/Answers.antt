use Rattle.draw_lines.specs.Drawing.{arrow_text}
use Rattle.draw_lines.proofs.drawing.ArrowDrawableSheet.put.Goals as goal

pub returns : goal.returns
unfolding arrow_text
returns c = rw c.course_words-words.ensures at rw c.course_class-class.ensures at rw c.arrow_way-way.ensures at c.put_bits.ensures
