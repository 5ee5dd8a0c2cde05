use Rattle.std.proofs.Common.{◌-◌}
use Rattle.cores.proofs.building.+are_built.Given as goal

abbrev pub decreases-are_built : goal.decreases-are_built
decreases-are_built l = l.end - l.page
