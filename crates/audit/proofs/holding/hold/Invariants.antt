use Rattle.std.proofs.Common.{◌-◌, ◌+◌, ◌≡◌, ◌≤◌}
use Rattle.audit.specs.Keeping.{HeldFrom}
use Rattle.audit.proofs.Held.{missing}
use Rattle.audit.proofs.holding.hold.Given as goal

-- the pages below the cursor are held
abbrev pub invariant-slots : goal.invariant-slots
invariant-slots g l = record {
  low : l.range.first ≤ l.cursor;
  high : l.cursor ≤ l.range.end;
  held : HeldFrom (g.M.SlotRead.slots l.map) l.range.first l.cursor;
  info : (g.M.SlotRead.slots l.map).info ≡ (g.M.SlotRead.slots l.fn.map).info;
}

abbrev pub decreases-slots : goal.decreases-slots
decreases-slots g l = missing (g.M.SlotRead.slots l.map) + (l.range.end - l.cursor)
