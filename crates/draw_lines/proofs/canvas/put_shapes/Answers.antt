use Rattle.draw_lines.specs.Canvas.{drawn}
use Rattle.draw_steps.proofs.Joined.{grow}
use Rattle.draw_lines.proofs.canvas.put_shapes.Goals as goal

pub returns : goal.returns
unfolding drawn
returns c =
    let old = c.args.out.now.items in
    let dangers = rw c.in_ok-dangers.ensures at rw c.as_slice.ensures.value at c.in_ok-put_each-2.ensures in
    let arrows = rw c.in_ok-arrows.ensures at rw c.as_slice-2.ensures.value at c.in_ok-put_each-3.ensures in
    let bars = rw c.in_ok-bars.ensures at rw c.as_slice-3.ensures.value at c.in_ok-put_each-4.ensures in
    let t1 = grow old _ _ c.put_each.new.out.items _ c.in_ok-put_each.ensures dangers in
    let t2 = grow old _ _ c.put_each-2.new.out.items _ t1 arrows in
    let t3 = grow old _ _ c.put_each-3.new.out.items _ t2 bars in
    let t4 = grow old _ _ c.put_each-4.new.out.items _ t3 c.in_ok-put_each-5.ensures in
    let t5 = grow old _ _ c.put_each-5.new.out.items _ t4 c.in_ok-put_each-6.ensures in
    grow old _ _ c.put_each-6.new.out.items _ t5 c.in_ok-put.ensures
