use Rattle.std.proofs.Common.{◌<◌, sym, subst, rules}
use Rattle.seats.specs.Tickets.{TicketerView}
use Rattle.seats.proofs.Dealing.{splits}
use Rattle.seats.proofs.tickets.Tickets.split.Goals as goal

pub split_seat-seat-requires : goal.split_seat-seat-requires
split_seat-seat-requires g c = (
  search rules,
  search rules,
  splits _ _ (subst (λ (t : TicketerView). 0 < t.spare) (sym c.ticketer.view_is) c.requires.spare),
)
