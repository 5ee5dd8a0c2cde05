use Rattle.std.proofs.Common.{length, take, ◌-◌, ◌≡◌, ◌≤◌}
use Rattle.machine_log.specs.Packing.{listed}
use Rattle.trace_text.specs.Lists.{log_text}
use Rattle.trace.specs.LogLines.{so_far}
use Rattle.trace.proofs.ShownLemmas.{IsHanded}
use Rattle.trace.proofs.shown.write_log.Given as goal

-- the lines of the first entries were handed on, or wait
abbrev pub invariant-entries : goal.invariant-entries
invariant-entries g l = record {
  within : l.at ≤ length (listed l.log);
  handed : IsHanded (g.W.Sink.contents l.initial.writer) (g.W.Sink.contents l.writer) (so_far l.lines) (log_text (take l.at (listed l.log)));
  kept : g.W.Sink.failed l.writer ≡ g.W.Sink.failed l.initial.writer;
}

abbrev pub decreases-entries : goal.decreases-entries
decreases-entries g l = length (listed l.log) - l.at
