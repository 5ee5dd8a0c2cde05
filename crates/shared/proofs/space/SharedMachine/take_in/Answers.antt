use Rattle.std.proofs.Common.{rules}
use Rattle.shared.proofs.Keeping.{join_keeps}
use Rattle.shared.proofs.space.SharedMachine.take_in.Goals as goal

pub join_seat-requires : goal.join_seat-requires
join_seat-requires g c = (
  search rules,
  search rules,
  search rules,
  search rules,
  join_keeps _ _ _ _ _ _ c.core.invariant.2 c.core.invariant.1 c.other.invariant.2
      c.other.invariant.1,
)
