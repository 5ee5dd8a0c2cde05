use Rattle.std.proofs.Common.{◌≡◌, ◌≤◌}
use Rattle.std.specs.Vec.{vec_capacity}
use Rattle.radix_node.specs.State.{state_of}
use Rattle.radix_node.specs.Run.{width_of}
use Rattle.radix_node.proofs.Divided.{Carries}
use Rattle.radix_node.proofs.node.Node.divided.Given as goal

abbrev pub invariant-slots : goal.invariant-slots
invariant-slots g l =
    (Carries (width_of l.level) l.k (state_of l.state) l.slots.items) × (l.width ≡ width_of l.level) × (512 ≤ vec_capacity l.slots)
