use Rattle.draw_steps.specs.Canvas.{head_text}
use Rattle.draw_steps.proofs.Joined.{grow}
use Rattle.draw_steps.proofs.canvas.put_head.Goals as goal

pub returns : goal.returns
unfolding head_text
returns c = grow c.args.out.now.items _ _ c.put_text.new.out.items _ c.in_ok-put_text.ensures c.in_ok-put_head_words.ensures
