use Rattle.state_text.specs.Texts.{holds_line}
use Rattle.state_text.proofs.Joined.{grow}
use Rattle.state_text.proofs.texts.put_spot_held.Goals as goal

pub returns : goal.returns
unfolding holds_line
returns c = grow c.args.out.now.items _ _ c.put_holding.new.out.items _ c.in_ok-put_holding.ensures c.in_ok-put_spot.ensures
