-- How the picture of a witness ends.
use Rattle.std.proofs.Common.{◌≡◌, ◌≢◌, ◌⊎◌, ℕ, Bool, true, List, Result, Err, inl, inr, refl, sym, subst, ◌∙◌}
use Rattle.word_runs.specs.Litmus.{litmus_status}
use Rattle.word_runs.specs.Witness.{PicturesWitness, WitnessEnds}
use Rattle.word_parts.specs.declared.asked.WitnessPicture.{WitnessPicture}
use Rattle.litmus.specs.declared.faults.TestFault.TheVariants as Why
use Rattle.litmus_text.specs.declared.faults.LitmusFault.TheVariants as TextOf
use Rattle.trace_words.specs.declared.fault.TraceFault.{TraceFault}
use Rattle.trace_words.specs.declared.fault.TraceFault.TheVariants as Fault
use Rattle.trace_io.specs.Io.{ReadFrom, WrittenTo}
use Rattle.trace_io.specs.Source.{HasStopped, Reads}
use Rattle.trace_io.specs.declared.fault.IoFault.{IoFault}
use Rattle.trace_io.specs.declared.fault.IoFault.TheVariants.{ReadFailed, NoMemory, WriteFailed}
use Rattle.trace_io.proofs.LineLemmas.{reads_map}

-- of a text that was read
pub pictured_of : (asked : WitnessPicture) (text : ReadFrom) (out : WrittenTo) (n : ℕ) (input : List ℕ)
    → Reads text.before text.after (λ i unread. i ≡ input) → WitnessEnds asked input out n → PicturesWitness asked text out n
pictured_of asked text out n input r ends = inl (reads_map _ _ _ _ r (λ xs ys k e. subst (λ i. WitnessEnds asked i out n) (sym e) ends))

-- of one that wasn't
pub unpictured_of : (asked : WitnessPicture) (text : ReadFrom) (out : WrittenTo) (n : ℕ) (fault : IoFault)
    → Reads text.before text.after (λ input unread. input ≡ input) → (fault ≡ ReadFailed → HasStopped text.failed text.reads)
    → (fault ≢ WriteFailed) → out.after ≡ out.before → n ≡ litmus_status (Why.Text (TextOf.Io fault)) → PicturesWitness asked text out n
unpictured_of asked text out n ReadFailed r read write same is = inr (is, read refl)
unpictured_of asked text out n NoMemory r read write same is = inl (reads_map _ _ _ _ r (λ xs ys k e. inr (record {
  fault = Why.Text (TextOf.Io NoMemory);
  fails = inl (inl (inl refl));
  same = same;
  status_is = is;
})))
unpictured_of asked text out n WriteFailed r read write same is = absurd (write refl)

-- what was written has gone out behind a flush
pub all_out : {T : Type 0} (ended : Result T TraceFault) (had mid now is_flushed : Bool) → (ended ≡ Err Fault.WriteFailed) ⊎ (mid ≡ had)
    → now ≡ mid → is_flushed ≡ true → (ended ≡ Err Fault.WriteFailed) ⊎ ((now ≡ had) × (is_flushed ≡ true))
all_out ended had mid now is_flushed (inl failed) same out = inl failed
all_out ended had mid now is_flushed (inr kept) same out = inr (same ∙ kept, out)
