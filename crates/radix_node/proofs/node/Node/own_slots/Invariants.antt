use Rattle.std.proofs.Common.{◌*◌, ◌-◌, ◌≤◌}
use Rattle.radix_node.specs.Run.{width_of}
use Rattle.radix_node.specs.Node.{runs, flatten}
use Rattle.radix_node.specs.Slots.{parts_of, IsNode}
use Rattle.radix_node.specs.OwnedRuns.{GetOwner}
use Rattle.radix_node.proofs.node.Node.own_slots.Given as goal

abbrev pub invariant-slots : goal.invariant-slots
invariant-slots g l =
    (l.first ≤ l.k) × (l.k ≤ l.end)
    × IsNode l.fn.self.level l.slots
    × GetOwner (runs l.fn.self) (flatten (width_of l.fn.self.level) (parts_of l.slots))
    (l.first * width_of l.fn.self.level) (width_of l.fn.self.level) l.handover (l.k - l.first)
