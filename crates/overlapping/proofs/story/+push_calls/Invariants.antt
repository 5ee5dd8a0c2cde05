use Rattle.std.proofs.Common.{length}
use Rattle.overlapping.proofs.story.+push_calls.Given as goal

abbrev pub decreases-push_calls : goal.decreases-push_calls
decreases-push_calls g l = length l.calls.now
