use Rattle.std.proofs.Common.{◌-◌, ◌^◌, ◌<◌, length}
use Rattle.import_lines.specs.Reading.{HearsInput}
use Rattle.import_lines.proofs.reading.read_lines.Given as goal

abbrev pub invariant-reads : goal.invariant-reads
invariant-reads g l = record {
  some : 0 < length l.chunk.items;
  heard : HearsInput g.L.Listener.has_heard l.initial.listener l.listener (g.S.Source.stream l.initial.reader) (g.S.Source.stream l.reader) l.held.items;
}

abbrev pub decreases-reads : goal.decreases-reads
decreases-reads g l = 2 ^ 32 - g.S.Source.reads l.reader
