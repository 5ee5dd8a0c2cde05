use Rattle.std.proofs.Common.{◌≡◌, ◌+◌, ◌<◌, ◌^◌, length}
use Rattle.trace_io.specs.Lines.{lines_of}
use Rattle.import_steps.specs.Counts.{total}
use Rattle.import_lackey.specs.Tracing.{state_of, trace_of, traced_with}
use Rattle.import_lackey.proofs.tracing.trace_lines.Given as goal

abbrev pub invariant-lines : goal.invariant-lines
invariant-lines l = record {
  value : traced_with (state_of l.traced, l.counts) (lines_of l.rest) ≡ trace_of l.log;
  few : length l.log < 2 ^ 64;
  left : l.left ≡ length l.rest;
  total : total l.counts + length (lines_of l.rest) ≡ length (lines_of l.log);
}

abbrev pub decreases-lines : goal.decreases-lines
decreases-lines l = l.left
