use Rattle.slot_lock.proofs.Words.{Bool, sym, subst, IsTrue, is_mapped}
use Rattle.std.specs.Prelude.{◌↔◌}
use Rattle.vm_calls.specs.Decisions.{entries}
use Rattle.audit.specs.Placing.{IsAllowed, IsFirst}
use Rattle.audit.proofs.Placed.{first_one}
use Rattle.audit.proofs.placing.is_allowed.Goals as goal

pub returns : goal.returns
returns g c =
    let m = is_mapped (entries (g.M.SlotRead.slots c.args.map.now)) in
    subst (λ (any : Bool). IsTrue c.is_same_place.result ↔ IsAllowed any m c.args.place c.args.found) (sym c.if-any_place.false) (
      (λ h. subst (IsFirst m c.args.place) (c.is_same_place.ensures.0 h) c.first_place.ensures.first),
      (λ k. c.is_same_place.ensures.1 (first_one m c.args.place c.first_place.result c.args.found c.first_place.ensures.first k)),
    )
