use Rattle.std.proofs.Common.{◌≡◌, ◌+◌, length, sym, subst, rules}
use Rattle.seats.specs.Tickets.{JoinedView}
use Rattle.seats.proofs.Dealing.{counts}
use Rattle.seats.proofs.tickets.Tickets.count.Goals as goal

pub load-requires : goal.load-requires
load-requires g c = (
  search rules,
  search rules,
  counts _ _ _ (subst (λ (j : JoinedView). j.spare + length j.lists ≡ 64) (sym c.joined.view_is) c.requires.all),
)
