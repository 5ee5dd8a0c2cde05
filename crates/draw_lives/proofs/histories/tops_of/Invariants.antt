use Rattle.std.proofs.Common.{◌≡◌, ◌≤◌, ◌+◌, ◌*◌, ◌-◌}
use Rattle.draw_lives.specs.Histories.{first_tops, lane_top}
use Rattle.draw_lives.proofs.histories.tops_of.Given as goal

abbrev pub invariant-cores : goal.invariant-cores
invariant-cores l = record {
  within : l.core ≤ 65;
  tops : l.tops.items ≡ first_tops l.scene l.core;
  top : l.top ≡ lane_top l.scene l.core;
  bounded : l.top ≤ 48 + 1100 * l.core;
}

abbrev pub decreases-cores : goal.decreases-cores
decreases-cores l = 65 - l.core
