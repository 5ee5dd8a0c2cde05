use Rattle.notes_text.proofs.VerdictLemmas.{judged_certified, judged_differs}
use Rattle.notes_text.proofs.certifying.judge.Goals as goal

pub returns-in-Ok-clause-ok : goal.returns-in-Ok-clause-ok
returns-in-Ok-clause-ok g c asked made = judged_certified _ _ _ asked _ c.args.setup _ made (rw c.no_histories.ensures at c.in-Ok.ensures.ok)

pub returns-in-Err-Differs-clause-ok : goal.returns-in-Err-Differs-clause-ok
returns-in-Err-Differs-clause-ok g c asked made =
    let differs = rw c.in-Err-Differs.field-0-is at c.in-Err-Differs.ensures.err in
    judged_differs _ _ _ asked _ c.args.setup _ _ _ made differs.1 differs.2
