use Rattle.std.proofs.Common.{length}
use Rattle.overlapping.proofs.story.+are_behind.Given as goal

abbrev pub decreases-are_behind : goal.decreases-are_behind
decreases-are_behind l = length l.calls.now
