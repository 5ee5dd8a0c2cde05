use Rattle.std.proofs.Common.{length, ◌-◌, ◌<◌, ◌≤◌}
use Rattle.slot_lock.specs.SlotList.{get_slot}
use Rattle.slot_lock.proofs.slot.place.Given as goal

abbrev pub invariant-halves : goal.invariant-halves
invariant-halves l = record {
  ordered : l.low < l.high;
  high : l.high ≤ length l.slots;
  from : (get_slot l.slots l.low).start ≤ l.page;
  until : l.high < length l.slots → l.page < (get_slot l.slots l.high).start;
}

abbrev pub decreases-halves : goal.decreases-halves
decreases-halves l = l.high - l.low
