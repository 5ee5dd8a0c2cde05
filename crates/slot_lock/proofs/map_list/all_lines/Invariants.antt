use Rattle.std.proofs.Common.{◌-◌, ◌^◌}
use Rattle.slot_lock.specs.MapWalks.{slot_metas}
use Rattle.slot_lock.proofs.MapLists.{ListsTo}
use Rattle.slot_lock.proofs.map_list.all_lines.Given as goal

abbrev pub invariant-lines : goal.invariant-lines
invariant-lines g l = ListsTo (slot_metas (g.M.SlotRead.slots l.map)) l.lines.items l.from

abbrev pub decreases-lines : goal.decreases-lines
decreases-lines g l = 2 ^ 35 - l.from
