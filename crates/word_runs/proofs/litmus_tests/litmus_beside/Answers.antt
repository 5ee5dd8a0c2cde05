use Rattle.std.proofs.Common.{ap, refl, Err}
use Rattle.trace_io.specs.Io.{written_to}
use Rattle.word_runs.proofs.LitmusLemmas.{told_of, unread_of}
use Rattle.word_runs.proofs.litmus_tests.litmus_beside.Goals as goal

pub returns-in-Ok-clause-ends : goal.returns-in-Ok-clause-ends
returns-in-Ok-clause-ends g c = told_of _ _ _ (written_to g.W.Sink c.args.out.now c.tell_test.new.out) _ c.as_slice.result.now
    (rw c.as_slice.ensures.value c.in-Ok.ensures.text) c.tell_test.ensures.ends

pub returns-in-Err-clause-ends : goal.returns-in-Err-clause-ends
returns-in-Err-clause-ends g c = unread_of _ _ _ (written_to g.W.Sink c.args.out.now c.args.out.now) _ c.in-Err.fault
    c.in-Err.ensures.kept (λ e. c.in-Err.ensures.read (ap Err e)) (λ e. c.in-Err.ensures.write (ap Err e)) refl c.refuse.ensures.status
