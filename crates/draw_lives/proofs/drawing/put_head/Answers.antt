use Rattle.draw_lives.specs.Lives.{head_text}
use Rattle.draw_steps.proofs.Joined.{grow}
use Rattle.draw_lives.proofs.drawing.put_head.Goals as goal

pub returns : goal.returns
unfolding head_text
returns c =
    let counted = grow c.args.out.now.items _ _ c.put_text.new.out.items _ c.in_ok-put_text.ensures c.in_ok-put_count.ensures in
    grow c.args.out.now.items _ _ c.put_count.new.out.items _ counted c.in_ok-put_all.ensures
