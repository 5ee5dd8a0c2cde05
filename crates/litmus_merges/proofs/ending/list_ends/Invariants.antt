use Rattle.litmus_merges.specs.Nodes.{AreEnds, AreOnce, HaveEnds}
use Rattle.litmus_merges.specs.Numbers.{AreNumbered}
use Rattle.litmus_merges.proofs.ending.list_ends.Given as goal

-- the ends of the nodes so far
abbrev pub invariant-nodes : goal.invariant-nodes
invariant-nodes g l = record {
  numbered : AreNumbered l.ends.items l.numbers.items;
  are : AreEnds l.objects l.addrs l.maps l.nodes l.ends.items;
  once : AreOnce l.ends.items;
  have : HaveEnds l.objects l.addrs l.maps l.nodes l.last l.ends.items;
}
