use Rattle.std.proofs.Common.{length}
use Rattle.cores.proofs.building.+is_built_by.Given as goal

abbrev pub decreases-is_built_by : goal.decreases-is_built_by
decreases-is_built_by l = length l.kept.now
