use Rattle.state_text.specs.Texts.{call_line}
use Rattle.state_text.proofs.Joined.{grow}
use Rattle.state_text.proofs.texts.put_phase.Goals as goal

pub returns : goal.returns
unfolding call_line
returns c =
    grow c.args.out.now.items _ _ c.put_doing.new.out.items _ c.in_ok-put_doing.ensures (rw c.spot_of-spot.ensures at c.in_ok-put_spot.ensures)
