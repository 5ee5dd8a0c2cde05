use Rattle.refcache.proofs.Unused.{unused_stays}
use Rattle.refcache.proofs.laws.unused_stays.Goals as goal

pub returns : goal.returns
returns c = unused_stays
