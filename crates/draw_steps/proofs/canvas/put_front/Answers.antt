use Rattle.draw_steps.specs.Canvas.{front_text}
use Rattle.draw_steps.proofs.Joined.{grow}
use Rattle.draw_steps.proofs.canvas.put_front.Goals as goal

pub returns : goal.returns
unfolding front_text
returns c = grow c.args.out.now.items _ _ c.put_size.new.out.items _ c.in_ok-put_size.ensures c.in_ok-put.ensures
