use Rattle.loose_orders.specs.Timely.{out_of}
use Rattle.loose_orders.proofs.TakenLemmas.{SoFar}
use Rattle.loose_orders.proofs.timely.left_all.Given as goal

abbrev pub invariant-calls : goal.invariant-calls
invariant-calls g l = SoFar (out_of l.unstored) l.history l.left.items l.at
