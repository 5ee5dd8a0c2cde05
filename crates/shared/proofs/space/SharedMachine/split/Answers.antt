use Rattle.std.proofs.Common.{rules}
use Rattle.shared.proofs.Keeping.{split_keeps}
use Rattle.shared.proofs.space.SharedMachine.split.Goals as goal

pub split_seat-seat-requires : goal.split_seat-seat-requires
split_seat-seat-requires g c = (search rules, search rules, split_keeps _ _ _ _ (search rules))
