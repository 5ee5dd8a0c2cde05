use Rattle.draw_steps.specs.Canvas.{drawn}
use Rattle.draw_steps.proofs.Joined.{grow}
use Rattle.draw_steps.proofs.canvas.put_drawn.Goals as goal

pub returns : goal.returns
unfolding drawn
returns c =
    let old = c.args.out.now.items in
    let bars = rw c.in_ok-bars.ensures at rw c.as_slice.ensures.value at c.in_ok-put_each-2.ensures in
    let arrows = rw c.in_ok-arrows.ensures at rw c.as_slice-2.ensures.value at c.in_ok-put_each-3.ensures in
    let marks = rw c.in_ok-marks.ensures at rw c.as_slice-3.ensures.value at c.in_ok-put_each-4.ensures in
    let t1 = grow old _ _ c.put_canvas.new.out.items _ c.in_ok-put_canvas.ensures c.in_ok-put_each.ensures in
    let t2 = grow old _ _ c.put_each.new.out.items _ t1 bars in
    let t3 = grow old _ _ c.put_each-2.new.out.items _ t2 arrows in
    let t4 = grow old _ _ c.put_each-3.new.out.items _ t3 marks in
    grow old _ _ c.put_each-4.new.out.items _ t4 c.in_ok-put.ensures
