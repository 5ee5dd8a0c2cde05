use Rattle.std.proofs.Common.{length, take, ◌-◌, ◌≡◌, ◌≤◌}
use Rattle.std.specs.Io.KnownBytes.{Appends}
use Rattle.std.specs.List.{flat_map}
use Rattle.machine_log.specs.Packing.{listed}
use Rattle.trace.specs.Echo.{entry_line}
use Rattle.trace.proofs.echo.write_entries.Given as goal

-- the lines of the first entries were written
abbrev pub invariant-entries : goal.invariant-entries
invariant-entries g l = record {
  within : l.at ≤ length (listed l.entries);
  written : Appends (g.W.Sink.contents l.initial.writer) (g.W.Sink.contents l.writer) (flat_map (entry_line l.whose) (take l.at (listed l.entries)));
  kept : g.W.Sink.failed l.writer ≡ g.W.Sink.failed l.initial.writer;
}

abbrev pub decreases-entries : goal.decreases-entries
decreases-entries g l = length (listed l.entries) - l.at
