use Rattle.std.proofs.Common.{◌≡◌, ◌*◌, ◌<◌}
use Rattle.radix_node.specs.Run.{width_of, cell_at}
use Rattle.radix_node.specs.Node.{runs}
use Rattle.radix_node.proofs.node.Node.descend.Given as goal

-- the slot that is looked for is the one of a page of the node
abbrev pub invariant-levels : goal.invariant-levels
invariant-levels g l =
    (l.rest < 512 * width_of l.node.level)
    × (cell_at (runs l.node) l.rest ≡ cell_at (runs l.self) l.page)

abbrev pub decreases-levels : goal.decreases-levels
decreases-levels g l = l.node.level
