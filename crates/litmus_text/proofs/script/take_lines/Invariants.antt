use Rattle.std.proofs.Common.{◌≡◌, ◌+◌, ◌^◌, ◌<◌, ◌≤◌, length}
use Rattle.trace_io.specs.Lines.{lines_of}
use Rattle.litmus_text.specs.Scripts.{lines_after, read_of}
use Rattle.litmus_text.proofs.script.take_lines.Given as goal

-- the lines that are left lead on to where all lead
abbrev pub invariant-lines : goal.invariant-lines
invariant-lines g l = record {
  leads : lines_after (l.number + 1) (read_of l.script) (lines_of l.rest) ≡ lines_after 1 (read_of l.fn.script) (lines_of l.text);
  most : length l.text < 2 ^ 64;
  room : l.number + length l.rest ≤ length l.text;
}

abbrev pub decreases-lines : goal.decreases-lines
decreases-lines g l = length l.rest
