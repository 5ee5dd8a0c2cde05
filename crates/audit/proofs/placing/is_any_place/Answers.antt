use Rattle.slot_lock.proofs.Words.{Option, ℕ, sym, subst, IsTrue, is_mapped}
use Rattle.std.specs.Prelude.{◌↔◌}
use Rattle.vm_calls.specs.Decisions.{entries}
use Rattle.audit.specs.Placing.{IsAnyPlace, all_pages}
use Rattle.audit.proofs.placing.is_any_place.Goals as goal

pub returns-in_default : goal.returns-in_default
returns-in_default g c =
    let m = is_mapped (entries (g.M.SlotRead.slots c.args.map.now)) in
    subst (λ (found : Option ℕ). IsTrue c.has_no_room.result ↔ IsAnyPlace m all_pages 0 c.args.count found) (sym c.in_default.is)
    c.has_no_room.ensures
