-- Litmus tests that are run on threads
use Rattle.std.proofs.Common.{◌≡◌, ℕ, false, List, inl, inr, Ok, subst}
use Rattle.std.specs.declared.alloc.Global.{Global}
use Rattle.trace_io.specs.Lines.{lines_of}
use Rattle.litmus_text.specs.Scripts.{Read, litmus_of}
use Rattle.litmus_outcomes.specs.declared.outcome.Outcomes.{Outcomes}
use Rattle.litmus.specs.Kernels.{Judges}
use Rattle.litmus.specs.Live.{CountsLive, FailsLive, IsUnrun, TellsLive}
use Rattle.litmus.specs.Tells.{Lists}
use Rattle.litmus.specs.declared.faults.TestFault.{TestFault}

-- no run came to an outcome, as of a test that the lines are
pub unrun : (lines : List (List ℕ)) (r : Read) (fault : TestFault) → litmus_of lines ≡ Ok r → IsUnrun r fault → FailsLive lines fault
unrun lines r fault is (inl want) = inl (inl want)
unrun lines r fault is (inr (inl untold)) = inr (inr (inl (r, is, untold)))
unrun lines r fault is (inr (inr none)) = inr (inr (inr none))

-- these counts were judged
pub told : (limit runs : ℕ) (lines : List (List ℕ)) (r : Read) (found : Outcomes Global) (counts bytes text : List ℕ) (status : ℕ)
    → litmus_of lines ≡ Ok r → Lists r found → CountsLive r runs counts → bytes ≡ counts → Judges r false found limit (lines_of bytes) text status
    → TellsLive limit runs lines text status
told limit runs lines r found counts bytes text status is lists counted same judges = record {
  test = r;
  is = is;
  counts = counts;
  counted = counted;
  found = found;
  lists = lists;
  judges = subst (λ b. Judges r false found limit (lines_of b) text status) same judges;
}
