use Rattle.std.proofs.Common.{◌≡◌, ◌≤◌, ◌-◌, ◌<◌, ◌^◌, map, length, take}
use Rattle.std.specs.Prelude.{All}
use Rattle.import_steps.specs.Counts.{total}
use Rattle.import_log.specs.Each.{part_all, parted}
use Rattle.import_steps.specs.Taking.{so_far}
use Rattle.import_log.proofs.each.parts_for.Given as goal

abbrev pub invariant-processes : goal.invariant-processes
invariant-processes g l = record {
  within : l.at ≤ length l.processes;
  value : map parted l.parts.items ≡ map (part_all l.unclear (so_far l.start) l.lines) (take l.at l.processes);
  few : All (λ p. total p.counts < 2 ^ 64) l.parts.items;
}

abbrev pub decreases-processes : goal.decreases-processes
decreases-processes g l = length l.processes - l.at
