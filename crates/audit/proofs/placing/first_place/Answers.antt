use Rattle.slot_lock.proofs.Words.{◌≡◌, inr, sym, subst, true, false, is_mapped}
use Rattle.vm_calls.specs.Decisions.{entries}
use Rattle.vm_calls.proofs.Rooms.{least-room}
use Rattle.audit.specs.Placing.{IsHintTaken}
use Rattle.audit.proofs.placing.first_place.Goals as goal
use Rattle.audit.proofs.placing.first_place.Goals.{in-Some+else-is_free, in_default}

pub returns-clause-first : goal.returns-clause-first
returns-clause-first g c =
    let m = is_mapped (entries (g.M.SlotRead.slots c.args.map.now)) in
    let taken : IsHintTaken m c.args.place.hint = elim c.match-place.branch [
      | in-Some+else-is_free w ↦ subst (IsHintTaken m) (sym w.in-Some.is) (λ free.
          let told : w.is_free.result ≡ true = w.is_free.ensures.1 free in
          let not' : w.is_free.result ≡ false = w.if-is_free.false in
          absurd cc)
      | in_default w ↦ subst (IsHintTaken m) (sym w.in_default.is) tt
    ] in
    inr (
      taken,
      least-room (g.M.SlotRead.slots c.args.map.now) c.args.place.window c.args.place.count c.first_free_run.result
          c.first_free_run.ensures.found c.first_free_run.ensures.least c.first_free_run.ensures.none,
    )
