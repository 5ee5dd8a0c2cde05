use Rattle.std.proofs.Common.{◌≡◌, ◌+◌, ◌<◌, ◌^◌, length}
use Rattle.trace_io.specs.Lines.{lines_of}
use Rattle.import_steps.specs.Taking.{so_far}
use Rattle.import_log.specs.Entries.{total}
use Rattle.import_log.specs.Starting.{listed_with, start_of}
use Rattle.import_log.proofs.starting.read_list.Given as goal

abbrev pub invariant-lines : goal.invariant-lines
invariant-lines l = record {
  value : listed_with (so_far l.taken, l.entries) (lines_of l.rest) ≡ start_of l.list;
  few : length l.list < 2 ^ 64;
  left : l.left ≡ length l.rest;
  total : total l.entries + length (lines_of l.rest) ≡ length (lines_of l.list);
}

abbrev pub decreases-lines : goal.decreases-lines
decreases-lines l = l.left
