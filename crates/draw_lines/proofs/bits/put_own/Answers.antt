use Rattle.draw_steps.proofs.Joined.{grow}
use Rattle.draw_lines.proofs.bits.put_own.Goals as goal

pub returns : goal.returns
returns c =
    let t1 = grow c.args.out.now.items _ _ c.put.new.out.items _ c.in_ok-put.ensures c.in_ok-put_spot.ensures in
    let line = rw c.third_line.ensures at rw c.reply_class.ensures at c.in_ok-put_all.ensures in
    grow c.args.out.now.items _ _ c.put_spot.new.out.items _ t1 line
