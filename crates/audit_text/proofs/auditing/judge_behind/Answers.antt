use Rattle.audit_text.proofs.AroundLemmas.{err_by, ok_by}
use Rattle.audit_text.proofs.auditing.judge_behind.Goals as goal

pub returns-in-Some-clause-ok : goal.returns-in-Some-clause-ok
returns-in-Some-clause-ok g c = rw c.in-Some.is c.judge_calls.ensures.ok

pub returns-in-Some-clause-err : goal.returns-in-Some-clause-err
returns-in-Some-clause-err g c = rw c.in-Some.is c.judge_calls.ensures.err

pub judge_calls-requires-clause-from_1 : goal.judge_calls-requires-clause-from_1
judge_calls-requires-clause-from_1 g c = rw c.in-Some.is at c.requires.from_1

pub returns-in-None-clause-ok : goal.returns-in-None-clause-ok
returns-in-None-clause-ok g c = rw c.in-None.is
    (ok_by c.judge_none.result (λ j p lines at. p c.args.terms lines c.args.number at) c.judge_none.ensures.ok)

pub returns-in-None-clause-err : goal.returns-in-None-clause-err
returns-in-None-clause-err g c = rw c.in-None.is
    (err_by c.judge_none.result (λ f p lines at. p c.args.terms lines c.args.number at) c.judge_none.ensures.err)
