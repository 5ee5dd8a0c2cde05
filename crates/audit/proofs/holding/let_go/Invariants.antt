use Rattle.std.proofs.Common.{◌-◌, ◌≡◌}
use Rattle.audit.specs.Keeping.{HeldFrom}
use Rattle.audit.proofs.holding.let_go.Given as goal

-- the pages from the cursor on are still held
abbrev pub invariant-slots : goal.invariant-slots
invariant-slots g l = record {
  held : HeldFrom (g.M.SlotRead.slots l.map) l.cursor l.end;
  info : (g.M.SlotRead.slots l.map).info ≡ (g.M.SlotRead.slots l.fn.map).info;
  edges : (g.M.SlotRead.slots l.map).edge ≡ (g.M.SlotRead.slots l.fn.map).edge;
}

abbrev pub decreases-slots : goal.decreases-slots
decreases-slots g l = l.end - l.cursor
