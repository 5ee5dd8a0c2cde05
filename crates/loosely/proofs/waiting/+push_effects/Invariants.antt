use Rattle.std.proofs.Common.{length}
use Rattle.loosely.proofs.waiting.+push_effects.Given as goal

abbrev pub decreases-push_effects : goal.decreases-push_effects
decreases-push_effects g l = length l.waiting.now
