use Rattle.std.proofs.Common.{◌<◌, length}
use Rattle.litmus_merges.proofs.Ended.{IsWay}
use Rattle.litmus_merges.proofs.ending.order_to.Given as goal

-- the turns so far lead from here to the last node
abbrev pub invariant-back : goal.invariant-back
invariant-back g l = record {
  within : l.at < length l.nodes;
  way : IsWay l.nodes l.at l.last l.order.items;
}

abbrev pub decreases-back : goal.decreases-back
decreases-back g l = l.at
