use Rattle.draw_lines.specs.Bits.{flat_answer}
use Rattle.draw_lines.proofs.bits.put_flat.Goals as goal

pub returns : goal.returns
unfolding flat_answer
returns c = rw c.reply_class.ensures at c.put_all.ensures
