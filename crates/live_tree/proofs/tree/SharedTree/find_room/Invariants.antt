use Rattle.std.proofs.Common.{◌≤◌}
use Rattle.live_tree.proofs.tree.SharedTree.find_room.Given as goal

abbrev pub invariant-slots : goal.invariant-slots
invariant-slots g l = l.from ≤ l.room.first
