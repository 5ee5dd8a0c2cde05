use Rattle.vm_base.proofs.CoreSets.{members-set}
use Rattle.refcache.proofs.place_set.PlaceSet.with.Goals as goal

pub returns : goal.returns
returns c = rw (← c.self.view_is) (members-set _ _ c.requires)
