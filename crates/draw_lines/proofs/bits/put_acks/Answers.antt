use Rattle.draw_steps.proofs.Joined.{grow}
use Rattle.draw_lines.proofs.bits.put_acks.Goals as goal

pub returns : goal.returns
returns c = grow c.args.out.now.items _ _ c.put.new.out.items _ c.in_ok-put.ensures c.in_ok-put_few.ensures
