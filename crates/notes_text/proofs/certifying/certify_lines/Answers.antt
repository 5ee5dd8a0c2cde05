use Rattle.std.proofs.Common.{refl, inl, inr}
use Rattle.trace_io.proofs.LineLemmas.{reads_map}
use Rattle.trace_io.proofs.IoLemmas.{keeps_same, reads_some}
use Rattle.notes_text.proofs.VerdictLemmas.{unjudged_own}
use Rattle.notes_text.proofs.certifying.certify_lines.Goals as goal

pub returns-in-Err-clause-ends : goal.returns-in-Err-clause-ends
returns-in-Err-clause-ends g c = reads_map _ _ _ _ c.in-Err.ensures.finds (λ xs ys k p. inl (p, keeps_same _))

pub returns-in-Err-clause-write : goal.returns-in-Err-clause-write
returns-in-Err-clause-write g c e =
    reads_some _ _ _ c.in-Err.ensures.finds (λ xs ys p. unjudged_own xs ys _ p (cc))
