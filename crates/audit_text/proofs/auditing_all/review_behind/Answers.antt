use Rattle.audit_text.proofs.AroundLemmas.{err_by, ok_by}
use Rattle.audit_text.proofs.auditing_all.review_behind.Goals as goal

pub returns-in-Some-clause-ok : goal.returns-in-Some-clause-ok
returns-in-Some-clause-ok g c = rw c.in-Some.is c.review_calls.ensures.ok

pub returns-in-Some-clause-err : goal.returns-in-Some-clause-err
returns-in-Some-clause-err g c = rw c.in-Some.is c.review_calls.ensures.err

pub review_calls-requires-clause-from_1 : goal.review_calls-requires-clause-from_1
review_calls-requires-clause-from_1 g c = rw c.in-Some.is at c.requires.from_1

pub returns-in-None-clause-ok : goal.returns-in-None-clause-ok
returns-in-None-clause-ok g c = rw c.in-None.is
    (ok_by c.review_none.result (λ r p lines at. p c.args.terms lines c.args.number at) c.review_none.ensures.ok)

pub returns-in-None-clause-err : goal.returns-in-None-clause-err
returns-in-None-clause-err g c = rw c.in-None.is
    (err_by c.review_none.result (λ f p lines at. p lines c.args.number at) c.review_none.ensures.err)
