use Rattle.draw_lives.specs.Lives.{chart_text}
use Rattle.draw_steps.proofs.Joined.{grow}
use Rattle.draw_lives.proofs.drawing.put_chart.Goals as goal

pub returns : goal.returns
unfolding chart_text
returns c =
    let old = c.args.out.now.items in
    let front = rw c.plot_height-high.ensures.value at c.in_ok-put_front.ensures in
    let t1 = grow old _ _ c.put_front.new.out.items _ front c.in_ok-put.ensures in
    let t2 = grow old _ _ c.put.new.out.items _ t1 c.in_ok-put_head.ensures in
    let t3 = grow old _ _ c.put_head.new.out.items _ t2 c.in_ok-put_first.ensures in
    let t4 = grow old _ _ c.put_first.new.out.items _ t3 c.in_ok-put_labels.ensures in
    let t5 = grow old _ _ c.put_labels.new.out.items _ t4 c.in_ok-put_frame.ensures in
    let t6 = grow old _ _ c.put_frame.new.out.items _ t5 c.in_ok-put_each.ensures in
    grow old _ _ c.put_each.new.out.items _ t6 c.in_ok-put-2.ensures
