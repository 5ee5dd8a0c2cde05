use Rattle.litmus_merges.specs.Nodes.{IsExplored, Keeps}
use Rattle.litmus_merges.proofs.exploring.run.Given as goal

-- all turns of the nodes so far lead to nodes
abbrev pub invariant-nodes : goal.invariant-nodes
invariant-nodes g l = record {
  explored : IsExplored l.objects l.calls l.nodes.items l.next;
  keeps : Keeps l.fn.nodes.items l.nodes.items;
}
