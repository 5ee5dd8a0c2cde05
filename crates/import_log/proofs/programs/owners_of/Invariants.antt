use Rattle.std.proofs.Common.{◌≡◌, ◌≤◌, ◌-◌, length, take}
use Rattle.import_lines.specs.Made.{fork_of, maker_of, process_of}
use Rattle.import_log.specs.Programs.{owners}
use Rattle.import_log.proofs.programs.owners_of.Given as goal

abbrev pub invariant-lines : goal.invariant-lines
invariant-lines l = record {
  within : l.at ≤ length l.lines;
  value : l.owned.items ≡ owners l.made (take l.at l.lines);
  known : l.known.process ≡ process_of l.made l.known.thread;
  own : l.known.own ≡ fork_of (maker_of l.made (process_of l.made l.known.thread));
}

abbrev pub decreases-lines : goal.decreases-lines
decreases-lines l = length l.lines - l.at
