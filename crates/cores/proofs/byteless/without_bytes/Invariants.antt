use Rattle.cores.proofs.Forgetting.{AreSoFar}
use Rattle.cores.proofs.byteless.without_bytes.Given as goal

-- those of the calls so far
abbrev pub invariant-calls : goal.invariant-calls
invariant-calls g l = AreSoFar l.history l.left.items l.at
