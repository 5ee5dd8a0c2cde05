use Rattle.std.proofs.Common.{◌≡◌, ◌≤◌, ◌-◌, length, drop}
use Rattle.import_log.specs.Imported.{asked_any}
use Rattle.import_log.proofs.refusing.asked_any.Given as goal

abbrev pub invariant-processes : goal.invariant-processes
invariant-processes l = record {
  within : l.at ≤ length l.processes;
  same : asked_any (drop l.at l.processes) ≡ asked_any l.processes;
}

abbrev pub decreases-processes : goal.decreases-processes
decreases-processes l = length l.processes - l.at
