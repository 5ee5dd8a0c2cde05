use Rattle.std.proofs.Common.{◌*◌}
use Rattle.radix_node.specs.Run.{width_of}
use Rattle.radix_node.specs.Node.{flatten}
use Rattle.radix_node.specs.Slots.{parts_of}
use Rattle.radix_node.proofs.Walks.{Along, FreeTo, reach}
use Rattle.radix_node.proofs.node.Node.+free_run.Given as goal

abbrev pub invariant-slots : goal.invariant-slots
invariant-slots g l =
    Along l.self-inside.level l.first l.end l.k l.k-end l.width
    × FreeTo (flatten (width_of l.self-inside.level) (parts_of l.self-inside.slots.items)) l.base l.first l.end l.n l.start l.open_from
    (reach l.first l.end (l.k * width_of l.self-inside.level))
