use Rattle.live_pages.proofs.Ending.{gives_up}
use Rattle.live_space.proofs.space.Live.reply_to.Goals as goal

pub returns-in-GiveBack-clause-gives : goal.returns-in-GiveBack-clause-gives
returns-in-GiveBack-clause-gives g c = gives_up _ _ c.give_up_with.ensures
