use Rattle.std.proofs.Common.{◌≡◌, ◌+◌, ◌≤◌, length, map}
use Rattle.std.specs.Vec.{vec_capacity, vec_len}
use Rattle.shared_script.proofs.LaneLemmas.{GathersSome}
use Rattle.shared_script.proofs.running.gather.Given as goal

-- the first cores were taken in
abbrev pub invariant-cores : goal.invariant-cores
invariant-cores g l = record {
  here : l.first.space ≡ l.space.table.shared.table_id;
  room : vec_len l.told + vec_len l.lanes ≤ vec_capacity l.told;
  gathers : GathersSome g.S.Whole.state l.script l.space.table.shared.table_id l.lanes.items l.first (map (λ told. told.items) l.told.items);
}

abbrev pub decreases-cores : goal.decreases-cores
decreases-cores g l = length l.lanes.items
