use Rattle.live_tree.proofs.Rooms.{alike_side}
use Rattle.live_tree.proofs.held.Held.reserve.Goals as goal

pub invariant_of-self : goal.invariant_of-self
invariant_of-self g c = (c.reserve_all.ensures.some, alike_side c.self.inside.first c.self.inside.end _ _ c.reserve_all.ensures.same c.self.invariant.1)
