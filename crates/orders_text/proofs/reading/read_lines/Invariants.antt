use Rattle.std.proofs.Common.{◌+◌, ◌^◌, ◌<◌, ◌≤◌, length}
use Rattle.trace_io.specs.Lines.{lines_of}
use Rattle.orders_text.specs.Faults.{IsPlace}
use Rattle.orders_text.specs.Steps.{HasPlaces, read_of}
use Rattle.orders_text.proofs.reading.read_lines.Given as goal

-- the lines so far are read
abbrev pub invariant-lines : goal.invariant-lines
invariant-lines g l = record {
  place : IsPlace (lines_of l.text) l.number (lines_of l.rest) (read_of l.history);
  few : length l.history.declaration.files.items ≤ 16;
  places : HasPlaces l.history;
  most : length l.text < 2 ^ 64;
  room : l.number + length l.rest ≤ length l.text;
}

abbrev pub decreases-lines : goal.decreases-lines
decreases-lines g l = length l.rest
