use Rattle.std.proofs.Common.{◌+◌, ◌^◌, ◌<◌, ◌≤◌, length}
use Rattle.trace_io.specs.Lines.{lines_of}
use Rattle.audit_text.specs.Heard.{Front}
use Rattle.audit_text.specs.Legal.{IsPlace}
use Rattle.audit_text.specs.Steps.{declared_of}
use Rattle.audit_text.proofs.declaring.declare.Given as goal

-- the lines so far declare this
abbrev pub invariant-lines : goal.invariant-lines
invariant-lines g l = record {
  place : IsPlace (lines_of l.text) l.number (lines_of l.rest) (Front (declared_of l.declaration));
  few : length l.declaration.files.items ≤ 16;
  most : length l.text < 2 ^ 64;
  room : l.number + length l.rest ≤ length l.text;
}

abbrev pub decreases-lines : goal.decreases-lines
decreases-lines g l = length l.rest
