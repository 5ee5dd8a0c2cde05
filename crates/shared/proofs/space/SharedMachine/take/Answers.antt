use Rattle.std.proofs.Common.{rules}
use Rattle.shared.proofs.Keeping.{take_keeps}
use Rattle.shared.proofs.space.SharedMachine.take.Goals as goal

pub compare_exchange-requires : goal.compare_exchange-requires
compare_exchange-requires g c = (search rules, search rules, take_keeps _ _ _ _ _ (search rules))
