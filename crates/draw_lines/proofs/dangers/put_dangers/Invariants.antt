use Rattle.std.proofs.Common.{◌≡◌, ◌≤◌, ◌-◌, ◌++◌}
use Rattle.draw_lines.specs.Dangers.{dangers_below}
use Rattle.draw_lines.proofs.dangers.put_dangers.Given as goal

abbrev pub invariant-cores : goal.invariant-cores
invariant-cores l = record { within : l.index ≤ 64; written : l.dangers.items ≡ l.initial.dangers.items ++ dangers_below l.moments l.sender l.cores l.column l.index }

abbrev pub decreases-cores : goal.decreases-cores
decreases-cores l = 64 - l.index
