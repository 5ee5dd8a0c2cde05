use Rattle.refcache.proofs.Reached.{sizes_stay}
use Rattle.refcache.proofs.laws.sizes_stay.Goals as goal

pub returns : goal.returns
returns c = sizes_stay
