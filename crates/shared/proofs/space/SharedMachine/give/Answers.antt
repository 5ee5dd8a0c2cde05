use Rattle.std.proofs.Common.{rules}
use Rattle.shared.proofs.Keeping.{give_keeps}
use Rattle.shared.proofs.space.SharedMachine.give.Goals as goal

pub store-requires : goal.store-requires
store-requires g c = let m = c.requires.can in (search rules, search rules, give_keeps _ _ _ _ _ m.0 _ m.1 m.2)
