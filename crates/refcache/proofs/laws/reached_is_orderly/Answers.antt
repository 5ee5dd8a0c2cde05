use Rattle.refcache.proofs.Reached.{reached_is_orderly}
use Rattle.refcache.proofs.laws.reached_is_orderly.Goals as goal

pub returns : goal.returns
returns c = reached_is_orderly
