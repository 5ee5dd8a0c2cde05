use Rattle.std.proofs.Common.{◌≡◌, ◌+◌, ◌-◌, ◌^◌, ◌<◌, ◌≤◌, ◌++◌, length}
use Rattle.trace_io.specs.Source.{Reads}
use Rattle.word_pictures.specs.Reading.{newlines}
use Rattle.word_pictures.proofs.reading.read_lines.Given as goal

-- what was read so far is the text, and what is left of the lines is to come
abbrev pub invariant-reads : goal.invariant-reads
invariant-reads g l = record {
  some : 0 < length l.chunk.items;
  read : Reads (g.S.Source.stream l.initial.reader) (g.S.Source.stream l.reader) (λ xs ys. xs ≡ l.text.items ++ ys);
  most : l.lines ≤ newlines l.text.items + l.left;
}

abbrev pub decreases-reads : goal.decreases-reads
decreases-reads g l = 2 ^ 32 - g.S.Source.reads l.reader
