use Rattle.std.proofs.Common.{◌≡◌, ◌++◌, drop, map, take}
use Rattle.loose_orders.specs.Kept.{kept_stored}
use Rattle.loose_orders.proofs.late.store.Given as goal

-- those so far are changed
abbrev pub invariant-kept : goal.invariant-kept
invariant-kept g l = l.kept.items ≡ map (kept_stored l.call l.page l.offset l.byte) (take l.at l.fn.kept.items) ++ drop l.at l.fn.kept.items
