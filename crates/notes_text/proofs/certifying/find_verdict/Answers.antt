use Rattle.trace_io.proofs.LineLemmas.{reads_map}
use Rattle.notes_text.specs.CertifyEnds.{unread_text}
use Rattle.notes_text.proofs.VerdictLemmas.{found_verdict}
use Rattle.notes_text.proofs.certifying.find_verdict.Goals as goal

pub returns-in-Err-clause-finds : goal.returns-in-Err-clause-finds
returns-in-Err-clause-finds g c = reads_map _ _ _ _ c.in-Err.ensures.err (λ xs ys k p. unread_text p)

pub returns-clause-finds : goal.returns-clause-finds
returns-clause-finds g c =
    reads_map _ _ _ _ c.in-Ok-collect.ensures.ok
    (λ xs ys k p. found_verdict _ _ _ _ xs ys _ _ p c.judge_collected-judged.ensures.ok c.judge_collected-judged.ensures.err)
