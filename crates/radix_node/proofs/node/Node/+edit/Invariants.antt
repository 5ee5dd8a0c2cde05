use Rattle.std.proofs.Common.{◌≡◌, ◌*◌}
use Rattle.radix_node.specs.Run.{width_of}
use Rattle.radix_node.specs.Node.{runs, flatten}
use Rattle.radix_node.specs.Slots.{parts_of, IsNode}
use Rattle.radix_node.proofs.Walks.{Along}
use Rattle.radix_node.proofs.Edits.{Edits}
use Rattle.radix_node.proofs.node.Node.+edit.Given as goal

abbrev pub invariant-slots : goal.invariant-slots
invariant-slots g l =
    Along l.self-inside.level l.first l.end l.k l.k-end l.width
    × IsNode l.self-inside.level l.self-inside.slots.items
    × (l.self-inside.level ≡ l.fn.self.level)
    × Edits (runs l.fn.self) (flatten (width_of l.self-inside.level) (parts_of l.self-inside.slots.items)) l.first l.end l.by l.edit
    (l.k * width_of l.self-inside.level)
