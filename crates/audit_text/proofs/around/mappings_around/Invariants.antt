use Rattle.std.proofs.Common.{◌-◌, ◌^◌, ◌≤◌, length}
use Rattle.slot_lock.specs.MapList.{GoesOn}
use Rattle.slot_lock.specs.MapWalks.{slot_metas}
use Rattle.audit_text.proofs.AroundLemmas.{AreShown}
use Rattle.audit_text.proofs.around.mappings_around.Given as goal

-- the lines up to this page
abbrev pub invariant-lines : goal.invariant-lines
invariant-lines g l = record {
  low : 1 ≤ l.from;
  high : l.from ≤ 2 ^ 35;
  few : length l.shown.items ≤ 4;
  shown : AreShown (slot_metas (g.M.SlotRead.slots l.map)) l.page l.from l.shown.items;
  begins : ¬ GoesOn (slot_metas (g.M.SlotRead.slots l.map) (l.from - 1)) (slot_metas (g.M.SlotRead.slots l.map) l.from);
}

abbrev pub decreases-lines : goal.decreases-lines
decreases-lines g l = 2 ^ 35 - l.from
