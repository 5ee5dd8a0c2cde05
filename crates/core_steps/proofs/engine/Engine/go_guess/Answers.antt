use Rattle.std.proofs.Common.{refl}
use Rattle.vm_calls.proofs.Rooms.{least-room}
use Rattle.core_steps.proofs.engine.Engine.go_guess.Goals as goal

pub returns : goal.returns
returns g c = (
  c.first_free_run-found.result,
  least-room (g.M.SlotRead.slots c.args.self.now.map) c.args.place.window c.args.place.count c.first_free_run-found.result
      c.first_free_run-found.ensures.found c.first_free_run-found.ensures.least c.first_free_run-found.ensures.none,
  (refl, rw (c.go_to.ensures, c.trying.ensures, c.guess_of.ensures) refl),
)
