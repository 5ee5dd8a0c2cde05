use Rattle.live_pages.proofs.Ending.{ends_given}
use Rattle.live_space.proofs.space.Live.end.Goals as goal

pub returns-clause-ended : goal.returns-clause-ended
returns-clause-ended g c = ends_given _ _ _ _ c.reply_to-reply.ensures.gives c.let_go.ensures.answered
