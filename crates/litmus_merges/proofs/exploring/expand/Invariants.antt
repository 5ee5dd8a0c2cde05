use Rattle.litmus_merges.specs.Nodes.{IsExplored, IsTurned, Keeps}
use Rattle.litmus_merges.proofs.exploring.expand.Given as goal

-- the turns of the calls so far lead to nodes
abbrev pub invariant-calls : goal.invariant-calls
invariant-calls g l = record {
  explored : IsExplored l.objects l.calls l.nodes.items l.from;
  keeps : Keeps l.fn.nodes.items l.nodes.items;
  turned : IsTurned l.objects l.calls l.nodes.items l.from l.at;
}
