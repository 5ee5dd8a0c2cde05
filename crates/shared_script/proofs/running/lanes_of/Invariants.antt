use Rattle.std.proofs.Common.{◌≡◌}
use Rattle.shared_script.proofs.LaneLemmas.{Splits}
use Rattle.shared_script.proofs.running.lanes_of.Given as goal

-- the last cores have their lanes
abbrev pub invariant-cores : goal.invariant-cores
invariant-cores g l = record {
  here : l.first.space ≡ l.space.table.shared.table_id;
  splits : Splits g.S.Whole.state l.fn.first.space l.fn.first.first l.fn.first.spare l.lanes.items l.number l.first;
}

abbrev pub decreases-cores : goal.decreases-cores
decreases-cores g l = l.first.spare
