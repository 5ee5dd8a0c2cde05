use Rattle.draw_steps.specs.Drawing.{mark_text}
use Rattle.draw_steps.proofs.drawing.MarkDrawableView.put.Goals as goal

pub returns : goal.returns
unfolding mark_text
returns c = rw c.sign_class-class.ensures at rw c.sign_word-word.ensures at rw c.column-x.ensures.value at rw c.lane-y.ensures.value at c.put_parts.ensures
