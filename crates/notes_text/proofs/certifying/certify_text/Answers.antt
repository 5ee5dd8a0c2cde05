use Rattle.trace_io.proofs.LineLemmas.{reads_map}
use Rattle.notes_text.proofs.VerdictLemmas.{certifies_kept, certifies_lost}
use Rattle.notes_text.proofs.certifying.certify_text.Goals as goal

pub returns-in-Ok-clause-ends : goal.returns-in-Ok-clause-ends
returns-in-Ok-clause-ends g c =
    reads_map _ _ _ _ c.certify_lines-done.ensures.ends (λ xs ys k h. certifies_kept _ _ _ _ xs ys _ _ _ _ h c.flush.ensures.bytes)

pub returns-in-Err-clause-ends : goal.returns-in-Err-clause-ends
returns-in-Err-clause-ends g c =
    reads_map _ _ _ _ c.certify_lines-done.ensures.ends (λ xs ys k h. certifies_lost _ _ _ _ xs ys _ _ _ _ h c.flush.ensures.bytes)
