use Rattle.std.proofs.Common.{◌≡◌, ◌≤◌, ◌-◌, Some, length, drop}
use Rattle.import_log.specs.Processes.{is_there}
use Rattle.import_log.proofs.processes.has_thread.Given as goal

abbrev pub invariant-lines : goal.invariant-lines
invariant-lines l = record {
  within : l.at ≤ length l.lines;
  same : is_there (Some l.thread) (drop l.at l.lines) ≡ is_there (Some l.thread) l.lines;
}

abbrev pub decreases-lines : goal.decreases-lines
decreases-lines l = length l.lines - l.at
