use Rattle.refcache.proofs.Reached.{unused_at_first}
use Rattle.refcache.proofs.laws.unused_at_first.Goals as goal

pub returns : goal.returns
returns c = unused_at_first
