use Rattle.std.proofs.Common.{◌-◌, ◌^◌}
use Rattle.slot_lock.specs.MapWalks.{slot_metas}
use Rattle.slot_lock.proofs.MapWalks.{NoneBelow}
use Rattle.slot_lock.proofs.map_list.first_mapped.Given as goal

abbrev pub invariant-slots : goal.invariant-slots
invariant-slots g l = NoneBelow (slot_metas (g.M.SlotRead.slots l.map)) l.from l.page

abbrev pub decreases-slots : goal.decreases-slots
decreases-slots g l = 2 ^ 35 - l.page
