use Rattle.live_space.proofs.Own.{kept_own}
use Rattle.live_space.proofs.space.Live.review.Goals as goal

pub returns-in_default-clause-own : goal.returns-in_default-clause-own
returns-in_default-clause-own g c = kept_own _ _ _ c.requires c.in_ok-reserve_notes.ensures.same
