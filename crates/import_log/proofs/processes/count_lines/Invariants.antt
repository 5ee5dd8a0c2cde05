use Rattle.std.proofs.Common.{◌≡◌, ◌≤◌, ◌-◌, length}
use Rattle.import_lines.specs.Made.{fork_of, maker_of, process_of}
use Rattle.import_log.specs.Processes.{processes}
use Rattle.import_log.proofs.processes.count_lines.Given as goal

abbrev pub invariant-lines : goal.invariant-lines
invariant-lines g l = record {
  within : l.at ≤ length l.lines;
  all : l.counted ≡ processes l.lines l.made l.at;
  known : l.known.process ≡ process_of l.made l.known.thread;
  own : l.known.own ≡ fork_of (maker_of l.made (process_of l.made l.known.thread));
}

abbrev pub decreases-lines : goal.decreases-lines
decreases-lines g l = length l.lines - l.at
