use Rattle.std.proofs.Common.{refl}
use Rattle.audit.proofs.Placed.{no_room, some_room}
use Rattle.audit.proofs.placing.has_no_room.Goals as goal

pub returns-in-Some : goal.returns-in-Some
returns-in-Some g c = (
  λ h. absurd cc,
  λ none. absurd (some_room (g.M.SlotRead.slots c.args.map.now) c.args.count c.first_free_run.result c.first_free_run.ensures.found
      (λ e. absurd cc) none),
)

pub returns-in-None : goal.returns-in-None
returns-in-None g c = (
  λ h. no_room (g.M.SlotRead.slots c.args.map.now) c.args.count c.first_free_run.result c.first_free_run.ensures.none c.in-None.is,
  λ none. refl,
)
