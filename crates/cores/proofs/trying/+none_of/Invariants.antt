use Rattle.std.proofs.Common.{length}
use Rattle.cores.proofs.trying.+none_of.Given as goal

abbrev pub decreases-none_of : goal.decreases-none_of
decreases-none_of g l = length l.kept.now
