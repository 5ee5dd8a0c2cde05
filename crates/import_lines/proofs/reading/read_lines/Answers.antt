use Rattle.std.proofs.Common.{◌<◌, ◌++◌, ℕ, List, ap, take, arith, refl, sym, subst}
use Rattle.trace_io.specs.Lines.{lines_of}
use Rattle.trace_io.proofs.LineLemmas.{on_err, reads_none}
use Rattle.import_lines.specs.Reading.{HearsMore}
use Rattle.import_lines.proofs.ReadingLemmas.{none_read, read_all, read_more, read_some}
use Rattle.import_lines.proofs.reading.read_lines.Goals as goal
use Rattle.import_lines.proofs.reading.read_lines.Goals.{in-Err-hear_text, in-Ok-hear_text}

pub reads-init : goal.reads-init
reads-init g c = record {
  some = omega (arith, c.in-Ok.ensures);
  heard = none_read _ _ _ _ c.new-held.ensures.items (reads_none _ _ (λ xs. refl));
}

pub reads-preserved : goal.reads-preserved
reads-preserved g c = record {
  some = subst (λ n. 0 < n) (sym c.read_chunk.ensures.same) c.reads.invariant.some;
  heard = read_more _ _ c.reads.listener _ _ _ _ c.reads.held.items _ _ c.reads.invariant.heard c.in-Ok-read_chunk.ensures.bytes
      (subst (λ b. HearsMore g.L.Listener.has_heard c.reads.listener c.hear_more.new.listener (c.reads.held.items ++ take c.in-Ok-read_chunk.count b) c.hear_more.new.held.items)
      c.deref.ensures.value c.in_default-hear_more.ensures);
}

pub returns-in_default-clause-kept : goal.returns-in_default-clause-kept
returns-in_default-clause-kept g c = reads_none _ _ (λ xs. refl)

pub returns-in-Err-clause-kept : goal.returns-in-Err-clause-kept
returns-in-Err-clause-kept g c = read_some _ _ _ _ _ _ _ _ c.reads.invariant.heard c.read_chunk.ensures.bytes

pub returns-in-Err-hear_more-clause-kept : goal.returns-in-Err-hear_more-clause-kept
returns-in-Err-hear_more-clause-kept g c = read_some _ _ _ _ _ _ _ _ c.reads.invariant.heard c.read_chunk.ensures.bytes

pub returns-then-count-eq0-clause-kept : goal.returns-then-count-eq0-clause-kept
returns-then-count-eq0-clause-kept g c = on_err _ _ (read_some _ _ _ _ _ _ _ _ c.reads.invariant.heard c.read_chunk.ensures.bytes)

pub returns-then-count-eq0-clause-heard : goal.returns-then-count-eq0-clause-heard
returns-then-count-eq0-clause-heard g c = elim c.match-hear_text.branch [
  | in-Ok-hear_text w ↦ rw w.result-is (read_all _ _ _ _ _ _ _ c.reads.held.items _ c.reads.invariant.heard c.in-Ok-read_chunk.ensures.bytes
      (ap (λ n. take n c.read_chunk.new.chunk.items) c.if-count-eq0.true) (c.in-Ok-read_chunk.ensures.end c.if-count-eq0.true)
      (subst (λ b. (lines : List (List ℕ)) → g.L.Listener.has_heard c.reads.listener lines → g.L.Listener.has_heard c.hear_text.new.listener (lines ++ lines_of b))
      c.as_slice.ensures.value w.in-Ok-hear_text.ensures))
  | in-Err-hear_text w ↦ rw w.result-is tt
]
