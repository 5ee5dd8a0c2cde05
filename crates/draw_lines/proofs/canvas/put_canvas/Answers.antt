use Rattle.draw_lines.specs.Canvas.{canvas_text}
use Rattle.draw_steps.proofs.Joined.{grow}
use Rattle.draw_lines.proofs.canvas.put_canvas.Goals as goal

pub returns : goal.returns
unfolding canvas_text
returns c =
    let old = c.args.out.now.items in
    let columns = rw c.min.ensures at c.in_ok-put_first.ensures in
    let t1 = grow old _ _ c.put_front.new.out.items _ c.in_ok-put_front.ensures columns in
    let t2 = grow old _ _ c.put_first.new.out.items _ t1 c.in_ok-put_first-2.ensures in
    let head = rw c.rows_y.ensures.value at rw c.saturating_sub.ensures at c.in_ok-put_head.ensures in
    let t3 = grow old _ _ c.put_first-2.new.out.items _ t2 head in
    let rows = rw c.min-2.ensures at c.in_ok-put_first-3.ensures in
    let t4 = grow old _ _ c.put_head.new.out.items _ t3 rows in
    grow old _ _ c.put_first-3.new.out.items _ t4 c.in_ok-put_legend.ensures
