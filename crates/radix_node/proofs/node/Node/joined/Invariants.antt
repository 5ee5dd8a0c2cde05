use Rattle.std.proofs.Common.{◌≡◌}
use Rattle.radix_node.specs.State.{state_of}
use Rattle.radix_node.specs.Run.{width_of}
use Rattle.radix_node.proofs.Joined.{Joins}
use Rattle.radix_node.proofs.node.Node.joined.Given as goal

abbrev pub invariant-slots : goal.invariant-slots
invariant-slots g l =
    (Joins (width_of l.self-inside.level) l.k (state_of l.first) l.self-inside.slots.items) × (l.width ≡ width_of l.self-inside.level)
