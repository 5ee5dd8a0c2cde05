use Rattle.std.proofs.Common.{◌*◌}
use Rattle.radix_node.specs.Run.{width_of}
use Rattle.radix_node.specs.Node.{flatten}
use Rattle.radix_node.specs.Slots.{parts_of}
use Rattle.radix_node.proofs.Walks.{Along}
use Rattle.radix_node.proofs.Listing.{ListsTo}
use Rattle.radix_node.proofs.node.Node.+list_frames.Given as goal

abbrev pub invariant-slots : goal.invariant-slots
invariant-slots g l =
    Along l.self-inside.level l.first l.end l.k l.k-end l.width
    × ListsTo (flatten (width_of l.self-inside.level) (parts_of l.self-inside.slots.items)) l.base l.first l.end
    (l.k * width_of l.self-inside.level) l.initial.list.items l.list.items
