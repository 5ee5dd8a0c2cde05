use Rattle.std.proofs.Common.{length}
use Rattle.cores.proofs.effects.+are_told.Given as goal

abbrev pub decreases-are_told : goal.decreases-are_told
decreases-are_told l = length l.kept.now
