use Rattle.std.proofs.Common.{◌+◌, arith, refl, ap, subst, sym, Ok, ◌∙◌, inl, inr, length, []}
use Rattle.std.specs.Io.KnownBytes.{Appends}
use Rattle.trace_io.proofs.IoLemmas.{reads_some}
use Rattle.trace_io.proofs.LineLemmas.{reads_none, reads_then}
use Rattle.trace_io.specs.Sink.{AppendsFront}
use Rattle.trace_io.specs.Window.{left}
use Rattle.trace.proofs.RunLemmas.{mark_kept, fault_kept}
use Rattle.trace.specs.Shown.{log_at}
use Rattle.trace.specs.declared.asking.Asks.{Asks}
use Rattle.trace.proofs.EchoLemmas.{below_is, echoed_cut, echoed_none, echoed_more, echoed_fails, echoed_ends, end_not_read, end_not_write}
use Rattle.trace.proofs.echo.echo_lines.Goals as goal

pub lines-init : goal.lines-init
lines-init g c = record {
  budget = rw c.requires.fresh (omega arith);
  kept = refl;
  wanted = refl;
  told = λ limit start yes. ap (λ s. length (log_at s)) (sym start);
  ran = λ limit start. reads_none _ _ (λ xs. echoed_none _ _ _ limit xs _ _ _ (ap (left xs) c.requires.fresh) start refl c.requires.none);
}

pub write_below-requires : goal.write_below-requires
write_below-requires g c =
    let old = record c.lines.replay { asks = record c.lines.replay.asks { line = c.lines.number + 1 } } in
    let seen = c.in-Ok-true.ensures.seen c.in-Ok-true.field-0-test in
    c.requires.keeps ∙ sym (reads_some _ _ _ seen (λ xs ys s. ap (λ (a : Asks). a.is_wanted) (s.1 old [] [] (refl, refl))) ∙ c.lines.invariant.wanted)

pub lines-preserved : goal.lines-preserved
lines-preserved g c =
    let old = record c.lines.replay { asks = record c.lines.replay.asks { line = c.lines.number + 1 } } in
    let seen = c.in-Ok-true.ensures.seen c.in-Ok-true.field-0-test in
    let less = c.in-Ok-true.ensures.budget c.in-Ok-true.field-0-test in
    let wrote = c.in-Ok.ensures.wrote in
    let kept = mark_kept _ _ _ _ (ap Ok c.in-Ok-true.field-0-test) c.in-Ok-true.ensures.told.kept ∙ c.lines.invariant.kept in
    record {
      budget = omega (arith, less, c.lines.invariant.budget);
      kept = wrote.kept ∙ kept;
      wanted = reads_some _ _ _ seen (λ xs ys s. ap (λ (a : Asks). a.is_wanted) (s.1 old [] [] (refl, refl))) ∙ c.lines.invariant.wanted;
      told = λ limit start yes. c.in-Ok.ensures.count yes;
      ran = λ limit start. reads_then _ _ _ _ _ _ (c.lines.invariant.ran limit start) seen (λ xs ys zs k h s.
          let more = s.1 old [] [] (refl, refl) in
          echoed_more _ _ _ limit xs _ _ _ _ _ _ _ h s.0 more
          (subst (Appends _ _) (below_is _ c.lines.replay.asks c.turn.new.replayer.asks (g.R.Staged.stage c.lines.replay.replayer)
          (g.R.Staged.stage c.turn.new.replayer.replayer) _ _ _ (ap (λ (a : Asks). a.is_wanted) more) (c.lines.invariant.told limit start) c.text_at.ensures h.line) wrote.ok));
    }

pub returns-in-Err-write_below-clause-ends : goal.returns-in-Err-write_below-clause-ends
returns-in-Err-write_below-clause-ends g c =
    let old = record c.lines.replay { asks = record c.lines.replay.asks { line = c.lines.number + 1 } } in
    let seen = c.in-Ok-true.ensures.seen c.in-Ok-true.field-0-test in
    λ limit start. reads_then _ _ _ _ _ _ (c.lines.invariant.ran limit start) seen (λ xs ys zs k h s.
    let more = s.1 old [] [] (refl, refl) in
    echoed_cut _ _ _ limit xs _ _ _ _ _ _ _ h s.0 more
    (subst (AppendsFront _ _) (below_is _ c.lines.replay.asks c.turn.new.replayer.asks (g.R.Staged.stage c.lines.replay.replayer)
    (g.R.Staged.stage c.turn.new.replayer.replayer) _ _ _ (ap (λ (a : Asks). a.is_wanted) more) (c.lines.invariant.told limit start) c.text_at.ensures h.line)
    c.in-Err-write_below.ensures.wrote.front))

pub returns-in-Err-write_below-clause-told : goal.returns-in-Err-write_below-clause-told
returns-in-Err-write_below-clause-told g c = record {
  read = λ e. absurd (cc);
  write = λ e. c.in-Err-write_below.ensures.wrote.err;
  kept = inl refl;
}

pub returns-in-Ok-false-clause-ends : goal.returns-in-Ok-false-clause-ends
returns-in-Ok-false-clause-ends g c =
    let turns = rw c.in-Ok-false.field-0-test at c.in-Ok-false.ensures.turns in
    λ limit start. reads_then _ _ _ _ _ _ (c.lines.invariant.ran limit start) turns
    (λ xs ys zs k h a. echoed_ends _ _ _ limit xs _ _ _ _ _ _ h a c.finish.ensures.ok c.finish.ensures.err)

pub returns-in-Ok-false-clause-told : goal.returns-in-Ok-false-clause-told
returns-in-Ok-false-clause-told g c =
    let turns = rw c.in-Ok-false.field-0-test at c.in-Ok-false.ensures.turns in
    record {
      read = λ e. reads_some _ _ _ turns (λ xs ys v. end_not_read _ _ _ v c.finish.ensures.err e);
      write = λ e. reads_some _ _ _ turns (λ xs ys v. end_not_write _ _ _ v c.finish.ensures.err e);
      kept = inr (mark_kept _ _ _ _ refl c.in-Ok-false.ensures.told.kept ∙ c.lines.invariant.kept);
    }

pub returns-in-Err-clause-ends : goal.returns-in-Err-clause-ends
returns-in-Err-clause-ends g c = λ limit start.
    reads_then _ _ _ _ _ _ (c.lines.invariant.ran limit start) c.in-Err.ensures.turns
    (λ xs ys zs k h a. echoed_fails _ _ _ limit _ c.requires.keeps xs _ _ _ _ _ _ h a)

pub returns-in-Err-clause-told : goal.returns-in-Err-clause-told
returns-in-Err-clause-told g c =
    let told = c.in-Err.ensures.told in
    record {
      read = λ e. told.read (cc);
      write = λ e. told.write (cc);
      kept = fault_kept _ _ _ _ _ _ refl refl told.kept c.lines.invariant.kept;
    }
