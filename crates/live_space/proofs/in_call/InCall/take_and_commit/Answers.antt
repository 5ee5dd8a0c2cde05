use Rattle.std.proofs.Common.{refl}
use Rattle.live_space.proofs.Noted.{goes_before}
use Rattle.live_space.proofs.in_call.InCall.take_and_commit.Goals as goal

pub returns-clause-goes : goal.returns-clause-goes
returns-clause-goes g c = goes_before _ _ _ c.commit_acked.ensures.goes refl c.take_all.ensures.grew
