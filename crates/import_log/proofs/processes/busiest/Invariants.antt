use Rattle.std.proofs.Common.{◌≡◌, ◌≤◌, ◌-◌, length, drop}
use Rattle.import_log.specs.Processes.{best_of, busiest}
use Rattle.import_log.proofs.processes.busiest.Given as goal

abbrev pub invariant-processes : goal.invariant-processes
invariant-processes l = record {
  within : l.at ≤ length l.processes;
  same : (best_of l.best (drop l.at l.processes)).number ≡ busiest l.processes;
}

abbrev pub decreases-processes : goal.decreases-processes
decreases-processes l = length l.processes - l.at
