use Rattle.std.proofs.Common.{refl, inl, inr}
use Rattle.trace_io.proofs.IoLemmas.{keeps_same, reads_some}
use Rattle.trace_io.proofs.LineLemmas.{reads_map, reads_none}
use Rattle.trace_words.specs.declared.fault.TraceFault.TheVariants as Of
use Rattle.trace_words.specs.Scripts.{unmade}
use Rattle.live_script.proofs.TextLemmas.{ends_as_yields, unread_own}
use Rattle.live_script.proofs.texts.certify_run.Goals as goal

pub returns-in_default-clause-ends : goal.returns-in_default-clause-ends
returns-in_default-clause-ends g c = reads_none _ _ (λ xs. inl (Of.NoMemory, refl, unmade refl refl, keeps_same _))

pub returns-in-Err-clause-ends : goal.returns-in-Err-clause-ends
returns-in-Err-clause-ends g c = reads_map _ _ _ _ c.in-Err.ensures.reads (λ xs ys k p. inl (c.in-Err.fault, refl, p, keeps_same _))

pub returns-in-Err-clause-told : goal.returns-in-Err-clause-told
returns-in-Err-clause-told g c = record {
  read = λ e. c.in-Err.ensures.read (cc);
  write = λ e. reads_some _ _ _ c.in-Err.ensures.reads (λ xs ys p. unread_own xs ys _ p (cc));
  kept = inr refl;
  out = tt;
}

pub returns-clause-ends : goal.returns-clause-ends
returns-clause-ends g c = reads_map _ _ _ _ c.in-Ok-read_script.ensures.reads
    (λ xs ys k whole. ends_as_yields _ _ _ _ xs ys _ whole c.certify_read.ensures.ends)
