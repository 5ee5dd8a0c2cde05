use Rattle.std.proofs.Common.{arith, ap}
use Rattle.std.proofs.lemmas.Result.{IfErr-weaker}
use Rattle.trace_io.proofs.LineLemmas.{reads_none, reads_then}
use Rattle.trace_io.specs.Window.{left}
use Rattle.trace_words.proofs.CollectLemmas.{collected_none, collected_more, collected_fails, collected_ends, collected_stops}
use Rattle.trace_words.proofs.CollectLemmas.{on_ok_then, end_not_read, some_asked}
use Rattle.trace_words.proofs.collecting.collect_lines.Goals as goal

pub lines-init : goal.lines-init
lines-init g c = record {
  budget = rw c.requires.fresh (omega arith);
  ran = reads_none _ _ (λ xs. collected_none _ _ xs _ (ap (left xs) c.requires.fresh) c.requires.start);
}

pub lines-preserved : goal.lines-preserved
lines-preserved g c =
    let turns = rw c.in-Ok-true.field-0-test at c.in-Ok-true.ensures.turns in
    let less = c.in-Ok-true.ensures.budget c.in-Ok-true.field-0-test in
    record {
      budget = omega (arith, less, c.lines.invariant.budget);
      ran = reads_then _ _ _ _ _ _ c.lines.invariant.ran turns (λ xs ys zs k h a. collected_more _ _ xs _ _ _ h a);
    }

pub returns-in-Ok-false-clause-ok : goal.returns-in-Ok-false-clause-ok
returns-in-Ok-false-clause-ok g c =
    let turns = rw c.in-Ok-false.field-0-test at c.in-Ok-false.ensures.turns in
    on_ok_then _ _ _ c.finish.ensures.ok (λ x. let (asked, is, sound) = some_asked _ x in
    reads_then _ _ _ _ _ _ c.lines.invariant.ran turns (λ xs ys zs k h a. (asked, is, collected_ends _ _ xs _ _ _ asked h a is sound)))

pub returns-in-Ok-false-clause-err : goal.returns-in-Ok-false-clause-err
returns-in-Ok-false-clause-err g c =
    let turns = rw c.in-Ok-false.field-0-test at c.in-Ok-false.ensures.turns in
    IfErr-weaker _ _ _ (λ f x. reads_then _ _ _ _ _ _ c.lines.invariant.ran turns (λ xs ys zs k h a. collected_stops _ _ xs _ _ _ f h a x)) c.finish.ensures.err

pub returns-in-Ok-false-clause-read : goal.returns-in-Ok-false-clause-read
returns-in-Ok-false-clause-read g c e = end_not_read _ _ c.finish.ensures.err e

pub returns-in-Err-clause-err : goal.returns-in-Err-clause-err
returns-in-Err-clause-err g c =
    reads_then _ _ _ _ _ _ c.lines.invariant.ran c.in-Err.ensures.turns (λ xs ys zs k h a. collected_fails _ _ xs _ _ _ _ h a)
