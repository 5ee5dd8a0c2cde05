use Rattle.std.proofs.Common.{◌-◌, ◌≤◌}
use Rattle.audit.specs.Keeping.{Forgets, Keeps, none_cached}
use Rattle.slot_lock.specs.Slots.{cleared}
use Rattle.audit.proofs.Kept.{upto}
use Rattle.audit.proofs.changing.forget_bytes.Given as goal

-- the frames of the pages so far were given back
abbrev pub invariant-lists : goal.invariant-lists
invariant-lists g l = record {
  low : l.range.first ≤ l.from;
  high : l.from ≤ l.range.end;
  kept : Keeps (cleared (g.M.SlotRead.slots l.map) (upto l.range l.from)) none_cached l.frames;
  forgets : Forgets (g.M.SlotRead.slots l.map) l.initial.frames l.frames (upto l.range l.from);
}

abbrev pub decreases-lists : goal.decreases-lists
decreases-lists g l = l.range.end - l.from
