use Rattle.std.proofs.Common.{◌≡◌, ◌≤◌, ◌++◌, ◌-◌}
use Rattle.draw_lives.specs.Histories.{lanes_text}
use Rattle.draw_lives.proofs.histories.put_lanes.Given as goal

abbrev pub invariant-cores : goal.invariant-cores
invariant-cores l = record {
  within : l.core ≤ 64;
  same : l.out.items ≡ l.initial.out.items ++ lanes_text l.scene l.core;
}

abbrev pub decreases-cores : goal.decreases-cores
decreases-cores l = 64 - l.core
