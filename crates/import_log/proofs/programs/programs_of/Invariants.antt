use Rattle.std.proofs.Common.{◌≡◌, ◌≤◌, ◌-◌, map, length, take}
use Rattle.import_log.specs.Programs.{program_name, programs_of}
use Rattle.import_log.proofs.programs.programs_of.Given as goal

abbrev pub invariant-processes : goal.invariant-processes
invariant-processes l = record {
  within : l.at ≤ length l.processes;
  value : map program_name l.all.items ≡ programs_of l.lines l.owned (take l.at l.processes);
}

abbrev pub decreases-processes : goal.decreases-processes
decreases-processes l = length l.processes - l.at
