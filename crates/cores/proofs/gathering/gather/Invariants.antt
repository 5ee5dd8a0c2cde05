use Rattle.cores.proofs.Gathered.{AreSoFar}
use Rattle.cores.proofs.gathering.gather.Given as goal

-- those of the calls so far
abbrev pub invariant-calls : goal.invariant-calls
invariant-calls g l = AreSoFar l.history l.pages l.number l.first l.cut l.kept.items l.at-counter
