use Rattle.std.proofs.Common.{length}
use Rattle.cores.proofs.building.+are_timely.Given as goal

abbrev pub decreases-are_timely : goal.decreases-are_timely
decreases-are_timely l = length l.kept.now
