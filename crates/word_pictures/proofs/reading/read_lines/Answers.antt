use Rattle.std.proofs.Common.{◌≡◌, ◌<◌, ◌++◌, take, drop, arith, sym, ap, ◌∙◌, subst}
use Rattle.trace_io.proofs.LineLemmas.{reads_none}
use Rattle.trace_io.proofs.TextLemmas.{one_read, any_read, all_read}
use Rattle.word_pictures.specs.Reading.{newlines}
use Rattle.word_pictures.proofs.Fronts.{all_enough, chunk_counted, lines_enough}
use Rattle.word_pictures.proofs.reading.read_lines.Goals as goal

pub reads-init : goal.reads-init
reads-init g c =
    record {
      some = omega (arith, c.in-Ok.ensures);
      read = reads_none _ _ (λ xs. ap (λ l. l ++ xs) (sym c.new-text.ensures.items));
      most = omega arith;
    }

pub returns-in-Err-clause-kept : goal.returns-in-Err-clause-kept
returns-in-Err-clause-kept g c = any_read _ _ _ _ _ c.reads.invariant.read c.read_chunk.ensures.bytes

pub returns-then-count-eq0-clause-text : goal.returns-then-count-eq0-clause-text
returns-then-count-eq0-clause-text g c =
    all_enough _ _ c.args.lines _ (all_read _ _ _ _ _ c.reads.invariant.read c.in-Ok-read_chunk.ensures.bytes
    (ap (λ n. take n (drop 0 c.read_chunk.new.chunk.items)) c.if-count-eq0.true)
    (c.in-Ok-read_chunk.ensures.end c.if-count-eq0.true)) (c.in-Ok-read_chunk.ensures.end c.if-count-eq0.true)

pub returns-in-Err-extend_from_slice-clause-kept : goal.returns-in-Err-extend_from_slice-clause-kept
returns-in-Err-extend_from_slice-clause-kept g c = any_read _ _ _ _ _ c.reads.invariant.read c.read_chunk.ensures.bytes

pub returns-then-left-eq0-clause-text : goal.returns-then-left-eq0-clause-text
returns-then-left-eq0-clause-text g c =
    let now = c.extend_from_slice.new.self.items in
    let items = c.in_default-extend_from_slice.ensures.items ∙ ap (λ l. c.reads.text.items ++ take c.in-Ok-read_chunk.count l) c.deref.ensures.value in
    let counted = c.newlines-ended.ensures ∙ ap (λ l. newlines (take c.in-Ok-read_chunk.count l)) c.deref-in-reads.ensures.value in
    lines_enough _ _ c.args.lines c.saturating_sub-left.result now (one_read _ _ _ _ _ _ c.reads.invariant.read c.in-Ok-read_chunk.ensures.bytes items)
    (chunk_counted c.reads.text.items _ now c.args.lines c.reads.left c.saturating_sub-left.result c.newlines-ended.result c.reads.invariant.most items counted
    c.saturating_sub-left.ensures) c.if-left-eq0.true

pub reads-preserved : goal.reads-preserved
reads-preserved g c =
    let now = c.extend_from_slice.new.self.items in
    let items = c.in_default-extend_from_slice.ensures.items ∙ ap (λ l. c.reads.text.items ++ take c.in-Ok-read_chunk.count l) c.deref.ensures.value in
    let counted = c.newlines-ended.ensures ∙ ap (λ l. newlines (take c.in-Ok-read_chunk.count l)) c.deref-in-reads.ensures.value in
    record {
      some = subst (λ n. 0 < n) (sym c.read_chunk.ensures.same) c.reads.invariant.some;
      read = one_read _ _ _ _ _ _ c.reads.invariant.read c.in-Ok-read_chunk.ensures.bytes items;
      most = chunk_counted c.reads.text.items _ now c.args.lines c.reads.left c.saturating_sub-left.result c.newlines-ended.result c.reads.invariant.most items
          counted c.saturating_sub-left.ensures;
    }
