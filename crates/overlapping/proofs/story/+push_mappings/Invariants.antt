use Rattle.std.proofs.Common.{length}
use Rattle.overlapping.proofs.story.+push_mappings.Given as goal

abbrev pub decreases-push_mappings : goal.decreases-push_mappings
decreases-push_mappings g l = length l.mappings.now
