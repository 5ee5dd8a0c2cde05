use Rattle.live_tree.proofs.Losses.{LostSoFar}
use Rattle.live_tree.proofs.held.losses.lose_all.Given as goal

abbrev pub invariant-guards : goal.invariant-guards
invariant-guards g l = LostSoFar l.range l.guard-items l.guard-index l.lost.cores l.lost.frames.items
