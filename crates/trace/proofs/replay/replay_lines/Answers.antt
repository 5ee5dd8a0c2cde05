use Rattle.std.proofs.Common.{arith, refl, ap, Ok, ◌∙◌}
use Rattle.trace_io.proofs.LineLemmas.{reads_none, reads_then}
use Rattle.trace_io.specs.Window.{left}
use Rattle.trace.proofs.RunLemmas.{run_none, run_more, run_fails, run_ends, mark_kept, mark_then, fault_kept}
use Rattle.trace.proofs.Seeing.{seen_all, seen_more, seen_none, seen_over}
use Rattle.trace.specs.Shown.{keeps_log}
use Rattle.trace.proofs.replay.replay_lines.Goals as goal

pub lines-init : goal.lines-init
lines-init g c = record {
  budget = rw c.requires.fresh (omega arith);
  kept = refl;
  ran = λ limit start. reads_none _ _ (λ xs. run_none limit _ xs _ _ (ap (left xs) c.requires.fresh) start refl);
  seen = reads_none _ _ (λ xs. seen_none _ _ xs _ _ c.requires.begins (ap (left xs) c.requires.fresh) refl);
}

pub lines-preserved : goal.lines-preserved
lines-preserved g c =
    let turns = rw c.in-Ok-true.field-0-test at c.in-Ok-true.ensures.turns in
    let less = c.in-Ok-true.ensures.budget c.in-Ok-true.field-0-test in
    let kept = mark_kept _ _ _ _ (ap Ok c.in-Ok-true.field-0-test) c.in-Ok-true.ensures.told.kept ∙ c.lines.invariant.kept in
    record {
      budget = omega (arith, less, c.lines.invariant.budget);
      kept = kept;
      ran = λ limit start. reads_then _ _ _ _ _ _ (c.lines.invariant.ran limit start) turns (λ xs ys zs k h a. run_more limit _ xs _ _ _ _ h a);
      seen = reads_then _ _ _ _ _ _ c.lines.invariant.seen (c.in-Ok-true.ensures.seen c.in-Ok-true.field-0-test)
          (λ xs ys zs k h a. seen_more g.R.Staged.saw _ _ _ _ xs _ _ _ h a);
    }

pub close-requires : goal.close-requires
close-requires g c e = c.requires.keeps ∙ ap keeps_log e

pub returns-in-Ok-false-clause-ends : goal.returns-in-Ok-false-clause-ends
returns-in-Ok-false-clause-ends g c =
    let turns = rw c.in-Ok-false.field-0-test at c.in-Ok-false.ensures.turns in
    λ limit start. reads_then _ _ _ _ _ _ (c.lines.invariant.ran limit start) turns
    (λ xs ys zs k h a. run_ends limit _ xs _ _ _ _ _ _ h a c.close.ensures.ok c.close.ensures.err)

pub returns-in-Err-clause-ends : goal.returns-in-Err-clause-ends
returns-in-Err-clause-ends g c = λ limit start.
    reads_then _ _ _ _ _ _ (c.lines.invariant.ran limit start) c.in-Err.ensures.turns (λ xs ys zs k h a. run_fails limit _ _ c.requires.keeps xs _ _ _ _ _ h a)

pub returns-in-Ok-false-clause-kept : goal.returns-in-Ok-false-clause-kept
returns-in-Ok-false-clause-kept g c =
    mark_then _ _ _ _ c.close.ensures.kept (mark_kept _ _ _ _ refl c.in-Ok-false.ensures.told.kept ∙ c.lines.invariant.kept)

pub returns-in-Err-clause-kept : goal.returns-in-Err-clause-kept
returns-in-Err-clause-kept g c = fault_kept _ _ _ _ _ _ refl refl c.in-Err.ensures.told.kept c.lines.invariant.kept

pub returns-in-Ok-false-clause-seen : goal.returns-in-Ok-false-clause-seen
returns-in-Ok-false-clause-seen g c =
    let turns = rw c.in-Ok-false.field-0-test at c.in-Ok-false.ensures.turns in
    seen_over c.close.result _ _ (λ h. reads_then _ _ _ _ _ _ c.lines.invariant.seen turns (λ xs ys zs k s a. seen_all g.R.Staged.saw _ _ _ _ xs _ _ _ _
    (c.in-Ok-false.ensures.over c.in-Ok-false.field-0-test) s a h)) c.close.ensures.ok
