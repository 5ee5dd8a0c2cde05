use Rattle.draw_lines.specs.Canvas.{front_text}
use Rattle.draw_steps.proofs.Joined.{grow}
use Rattle.draw_lines.proofs.canvas.put_front.Goals as goal

pub returns : goal.returns
unfolding front_text
returns c =
    let front = rw c.width.ensures at rw c.form_class.ensures at c.in_ok-put_size.ensures in
    let t1 = grow c.args.out.now.items _ _ c.put_size.new.out.items _ front c.in_ok-put_title.ensures in
    grow c.args.out.now.items _ _ c.put_title.new.out.items _ t1 c.in_ok-put.ensures
