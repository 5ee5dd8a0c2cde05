use Rattle.slot_lock.proofs.Words.{ℕ, Some, None, refl, ap, pages_from}
use Rattle.vm_calls.specs.declared.decision.Decision.TheVariants.{Act}
use Rattle.vm_calls.proofs.Rooms.{least-room}
use Rattle.vm_calls.proofs.decision.decide_window.Goals as goal

pub returns-in_default : goal.returns-in_default
returns-in_default g c = (
  None,
  least-room (g.M.SlotRead.slots c.args.map.now) c.args.place.window c.args.place.count None c.in_default.ensures.found c.in_default.ensures.least
      c.in_default.ensures.none,
  refl,
)

pub returns : goal.returns
returns g c = (
  Some c.in-Some.first,
  least-room (g.M.SlotRead.slots c.args.map.now) c.args.place.window c.args.place.count (Some c.in-Some.first) c.in-Some.ensures.found
      c.in-Some.ensures.least c.in-Some.ensures.none,
  ap (λ (shoot : ℕ). Act (pages_from c.in-Some.first c.args.place.count) shoot) c.empty.ensures,
)
