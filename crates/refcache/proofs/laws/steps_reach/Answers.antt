use Rattle.refcache.proofs.Reached.{steps_reach}
use Rattle.refcache.proofs.laws.steps_reach.Goals as goal

pub returns : goal.returns
returns c = steps_reach
