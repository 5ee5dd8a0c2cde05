use Rattle.draw_lives.specs.Lives.{labels_text}
use Rattle.draw_steps.proofs.Joined.{grow}
use Rattle.draw_lives.proofs.drawing.put_labels.Goals as goal

pub returns : goal.returns
unfolding labels_text
returns c =
    let old = c.args.out.now.items in
    let pages = rw c.count_of.ensures.value at c.in_ok-put_first.ensures in
    let t1 = grow old _ _ c.put.new.out.items _ c.in_ok-put.ensures pages in
    grow old _ _ c.put_first.new.out.items _ t1 c.in_ok-put-2.ensures
