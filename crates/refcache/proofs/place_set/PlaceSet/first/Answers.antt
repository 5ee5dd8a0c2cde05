use Rattle.std.proofs.Common.{◌<◌, arith}
use Rattle.vm_base.proofs.CoreSets.{members-least, members-below}
use Rattle.refcache.proofs.place_set.PlaceSet.first.Goals as goal

pub returns-clause-member : goal.returns-clause-member
returns-clause-member c =
    let some : 0 < c.self.inside.bits = omega arith in
    rw (← c.self.view_is) (members-least _ some (omega arith))

pub returns-clause-least : goal.returns-clause-least
returns-clause-least c =
    let some : 0 < c.self.inside.bits = omega arith in
    rw (← c.self.view_is) (members-below _ some (omega arith))
