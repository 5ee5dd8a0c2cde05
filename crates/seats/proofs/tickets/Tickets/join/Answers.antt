use Rattle.std.proofs.Common.{rules}
use Rattle.seats.proofs.Dealing.{joins}
use Rattle.seats.proofs.tickets.Tickets.join.Goals as goal

pub join_seat-requires : goal.join_seat-requires
join_seat-requires g c = (search rules, search rules, search rules, search rules, joins _ _ _ _)
