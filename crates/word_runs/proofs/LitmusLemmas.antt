-- How the word `litmus` ends.
use Rattle.std.proofs.Common.{◌≡◌, ◌≢◌, ◌⊎◌, ℕ, true, List, inl, inr, refl, sym, subst}
use Rattle.std.specs.declared.alloc.Global.{Global}
use Rattle.word_runs.specs.Litmus.{TellsBeside, TellsTest, TestEnds, litmus_status}
use Rattle.word_runs.specs.declared.litmus_tests.Test.{Test}
use Rattle.litmus.specs.Asked.{FailsAs}
use Rattle.litmus.specs.declared.faults.TestFault.TheVariants as Why
use Rattle.litmus.specs.declared.telling.LitmusAsk.{LitmusAsk}
use Rattle.litmus.specs.declared.telling.LitmusAsk.TheVariants.{Outcomes, Program, Observed, Live}
use Rattle.litmus_text.specs.declared.faults.LitmusFault.TheVariants as TextOf
use Rattle.trace_io.specs.Io.{ReadFrom, WrittenTo}
use Rattle.trace_io.specs.Source.{HasStopped, Reads}
use Rattle.trace_io.specs.declared.fault.IoFault.{IoFault}
use Rattle.trace_io.specs.declared.fault.IoFault.TheVariants.{ReadFailed, NoMemory, WriteFailed}
use Rattle.trace_io.proofs.LineLemmas.{reads_map, reads_none}

want_fails : (wanted : LitmusAsk) (counts lines : List (List ℕ)) → FailsAs Global wanted counts lines (Why.Text (TextOf.Io NoMemory))
want_fails (Outcomes view) counts lines = inl (inl (inl refl))
want_fails Program counts lines = inl refl
want_fails Observed counts lines = inl (inl refl)
want_fails (Live runs) counts lines = inl (inl refl)

-- of a text that was read
pub told_of : (test : Test) (counts : List ℕ) (text : ReadFrom) (out : WrittenTo) (n : ℕ) (input : List ℕ)
    → Reads text.before text.after (λ i unread. i ≡ input)
    → TestEnds test counts input out.before out.after n ⊎ ((n ≡ 3) × (out.failed ≡ true)) → TellsBeside test counts text out n
told_of test counts text out n input r (inl ends) =
    inl (reads_map _ _ _ _ r (λ xs ys k e. subst (λ i. TestEnds test counts i out.before out.after n) (sym e) ends))
told_of test counts text out n input r (inr failed) = inr (failed.0, inr failed.1)

-- nothing is told of any text
none_told : (test : Test) (counts input : List ℕ) (out : WrittenTo) (n : ℕ) → out.after ≡ out.before
    → n ≡ litmus_status (Why.Text (TextOf.Io NoMemory)) → TestEnds test counts input out.before out.after n
none_told test counts input out n same is = inr (record {
  fault = Why.Text (TextOf.Io NoMemory);
  fails = want_fails test.wanted _ _;
  same = same;
  status_is = is;
})

-- of one that wasn't
pub unread_of : (test : Test) (counts : List ℕ) (text : ReadFrom) (out : WrittenTo) (n : ℕ) (fault : IoFault)
    → Reads text.before text.after (λ input unread. input ≡ input) → (fault ≡ ReadFailed → HasStopped text.failed text.reads)
    → (fault ≢ WriteFailed) → out.after ≡ out.before → n ≡ litmus_status (Why.Text (TextOf.Io fault)) → TellsBeside test counts text out n
unread_of test counts text out n ReadFailed r read write same is = inr (is, inl (read refl))
unread_of test counts text out n NoMemory r read write same is =
    inl (reads_map _ _ _ _ r (λ xs ys k e. none_told test counts xs out n same is))
unread_of test counts text out n WriteFailed r read write same is = absurd (write refl)

-- beside counts that were read
pub told_beside : (test : Test) (list text : ReadFrom) (out : WrittenTo) (n : ℕ) (counts : List ℕ)
    → Reads list.before list.after (λ i unread. i ≡ counts) → TellsBeside test counts text out n → TellsTest test list text out n
told_beside test list text out n counts r tells =
    inl (reads_map _ _ _ _ r (λ xs ys k e. subst (λ i. TellsBeside test i text out n) (sym e) tells))

-- and beside those that weren't
pub uncounted_of : (test : Test) (list text : ReadFrom) (out : WrittenTo) (n : ℕ) (fault : IoFault)
    → Reads list.before list.after (λ input unread. input ≡ input) → (fault ≡ ReadFailed → HasStopped list.failed list.reads)
    → (fault ≢ WriteFailed) → text.before ≡ text.after → out.after ≡ out.before → n ≡ litmus_status (Why.Text (TextOf.Io fault))
    → TellsTest test list text out n
uncounted_of test list text out n ReadFailed r read write none same is = inr (is, read refl)
uncounted_of test list text out n NoMemory r read write none same is = inl (reads_map _ _ _ _ r (λ xs ys k e.
    inl (subst (λ s. Reads text.before s (λ input unread. TestEnds test xs input out.before out.after n)) none
    (reads_none text.before (λ input unread. TestEnds test xs input out.before out.after n) (λ input. none_told test xs input out n same is)))))
uncounted_of test list text out n WriteFailed r read write none same is = absurd (write refl)
