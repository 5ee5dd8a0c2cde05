use Rattle.std.proofs.Common.{◌^◌}
use Rattle.live_tree.proofs.Begun.{unused_is_new}
use Rattle.live_tree.proofs.tree.SharedTree.first_slots.Goals as goal

pub returns-clause-pages : goal.returns-clause-pages
returns-clause-pages g c = unused_is_new 0 (2 ^ 27) c.in_ok-slots.slots.items c.in_ok-slots.ensures
