use Rattle.std.proofs.Common.{◌≡◌, ◌≤◌, ◌-◌, length, drop}
use Rattle.import_log.specs.Imported.{stray_of}
use Rattle.import_log.proofs.refusing.stray_of.Given as goal

abbrev pub invariant-processes : goal.invariant-processes
invariant-processes l = record {
  within : l.at ≤ length l.processes;
  same : stray_of l.lines l.made l.chosen (drop l.at l.processes) ≡ stray_of l.lines l.made l.chosen l.processes;
}

abbrev pub decreases-processes : goal.decreases-processes
decreases-processes l = length l.processes - l.at
