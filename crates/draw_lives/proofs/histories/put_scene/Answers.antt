use Rattle.draw_lives.specs.Histories.{scene_text}
use Rattle.draw_steps.proofs.Joined.{grow}
use Rattle.draw_lives.proofs.histories.put_scene.Goals as goal

pub returns : goal.returns
unfolding scene_text
returns c =
    let old = c.args.out.now.items in
    let front = rw c.top_at-bottom.ensures.value at c.in_ok-put_size.ensures in
    let t1 = grow old _ _ c.put_size.new.out.items _ front c.in_ok-put.ensures in
    let t2 = grow old _ _ c.put.new.out.items _ t1 c.in_ok-put_head.ensures in
    let t3 = grow old _ _ c.put_head.new.out.items _ t2 c.in_ok-put_lanes.ensures in
    let t4 = grow old _ _ c.put_lanes.new.out.items _ t3 c.in_ok-put_calls.ensures in
    let axis = rw c.top_at-bottom.ensures.value at c.in_ok-put_axis.ensures in
    let t5 = grow old _ _ c.put_calls.new.out.items _ t4 axis in
    grow old _ _ c.put_axis.new.out.items _ t5 c.in_ok-put-2.ensures
