use Rattle.std.proofs.Common.{◌<◌, ◌^◌, length, sym, subst, rules}
use Rattle.seats.specs.Tickets.{TicketerView}
use Rattle.seats.proofs.Dealing.{draws}
use Rattle.seats.proofs.tickets.Tickets.draw.Goals as goal

pub fetch_add-requires : goal.fetch_add-requires
fetch_add-requires g c = (
  search rules,
  search rules,
  draws _ _ _ c.ticketer.invariant.1 (subst (λ (t : TicketerView). length t.tickets < 2 ^ 32) (sym c.ticketer.view_is) c.requires.room),
)
