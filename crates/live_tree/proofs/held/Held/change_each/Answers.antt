use Rattle.std.proofs.Common.{map}
use Rattle.live_tree.specs.Guards.{slot_of}
use Rattle.live_tree.proofs.Changed.{changed_side_by_side}
use Rattle.live_tree.proofs.held.Held.change_each.Goals as goal

pub invariant_of-self : goal.invariant_of-self
invariant_of-self g c = (
  c.change_all.ensures.some,
  rw c.change_all.ensures.slots (changed_side_by_side c.args.ticket c.args.act c.self.inside.first c.self.inside.end
      (map slot_of c.self.inside.guards.items) c.self.invariant.1),
)
