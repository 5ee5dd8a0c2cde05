use Rattle.std.proofs.Common.{ap, refl, Err}
use Rattle.trace_io.specs.Io.{read_from, written_to}
use Rattle.word_runs.proofs.LitmusLemmas.{told_beside, uncounted_of}
use Rattle.word_runs.proofs.litmus_tests.litmus.Goals as goal

pub returns-in-Ok-clause-does : goal.returns-in-Ok-clause-does
returns-in-Ok-clause-does g c = told_beside _ _ _ (written_to g.W.Sink c.args.out.now c.litmus_beside.new.out) _
    c.as_slice.result.now (rw c.as_slice.ensures.value c.in-Ok.ensures.text) c.litmus_beside.ensures.ends

pub returns-in-Err-clause-does : goal.returns-in-Err-clause-does
returns-in-Err-clause-does g c = uncounted_of _ _ (read_from g.S.Source c.args.reader.now c.args.reader.now)
    (written_to g.W.Sink c.args.out.now c.args.out.now) _ c.in-Err.fault c.in-Err.ensures.kept
    (λ e. c.in-Err.ensures.read (ap Err e)) (λ e. c.in-Err.ensures.write (ap Err e)) refl refl c.refuse.ensures.status
