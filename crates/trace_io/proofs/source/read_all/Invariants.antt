use Rattle.std.proofs.Common.{◌≡◌, ◌-◌, ◌^◌, ◌<◌, ◌++◌, length}
use Rattle.trace_io.specs.Source.{Reads}
use Rattle.trace_io.proofs.source.read_all.Given as goal

-- what was read so far is the text
abbrev pub invariant-reads : goal.invariant-reads
invariant-reads g l = record {
  some : 0 < length l.chunk.items;
  read : Reads (g.S.Source.stream l.initial.reader) (g.S.Source.stream l.reader) (λ xs ys. xs ≡ l.text.items ++ ys);
}

abbrev pub decreases-reads : goal.decreases-reads
decreases-reads g l = 2 ^ 32 - g.S.Source.reads l.reader
