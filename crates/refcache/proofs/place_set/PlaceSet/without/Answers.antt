use Rattle.std.proofs.Common.{arith}
use Rattle.vm_base.proofs.CoreSets.{members-clear}
use Rattle.refcache.proofs.place_set.PlaceSet.without.Goals as goal

pub returns : goal.returns
returns c = rw (← c.self.view_is) (members-clear _ _ (omega arith) c.requires)
