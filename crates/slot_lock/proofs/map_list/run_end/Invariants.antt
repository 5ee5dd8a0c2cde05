use Rattle.std.proofs.Common.{◌-◌, ◌^◌}
use Rattle.slot_lock.specs.MapWalks.{slot_metas, IsRun}
use Rattle.slot_lock.proofs.map_list.run_end.Given as goal

abbrev pub invariant-slots : goal.invariant-slots
invariant-slots g l = IsRun (slot_metas (g.M.SlotRead.slots l.map)) l.first l.meta l.end

abbrev pub decreases-slots : goal.decreases-slots
decreases-slots g l = 2 ^ 35 - l.end
