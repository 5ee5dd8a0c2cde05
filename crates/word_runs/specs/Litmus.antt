-- What the word `litmus` does.
use Rattle.std.specs.Prelude.{◌≡◌, ◌⊎◌, ℕ, true, List, Option, if◌then◌else◌, ◌==◌}
use Rattle.std.specs.Io.KnownBytes.{Appends}
use Rattle.std.specs.declared.alloc.Global.{Global}
use Rattle.word_runs.specs.declared.litmus_tests.Test.{Test}
use Rattle.litmus.specs.Asked.{FailsAs, TellsAs}
use Rattle.litmus.specs.declared.faults.TestFault.{TestFault}
use Rattle.litmus.specs.declared.faults.TestFault.TheVariants as Why
use Rattle.litmus.specs.declared.fault.LiveTestFault.TheVariants as LiveOf
use Rattle.litmus_text.specs.declared.faults.LitmusFault.TheVariants as TextOf
use Rattle.trace_io.specs.Io.{ReadFrom, WrittenTo}
use Rattle.trace_io.specs.Lines.{lines_of}
use Rattle.trace_io.specs.Source.{HasStopped, Reads}

-- 3 where a read, a write or memory failed, or a run on threads came to no outcome, but 1 where one isn't certified; 2 where the text or what
-- is asked for is at fault
abbrev pub litmus_status : TestFault → ℕ
litmus_status (Why.Text (TextOf.Io f)) = 3
litmus_status (Why.Live LiveOf.NotCertified) = 1
litmus_status (Why.Live f) = 3
litmus_status fault = 2

-- of what is told of the test: 4 where a clause is open, or not all outcomes are known
abbrev pub told_status : ℕ → ℕ
told_status n = if n == 0 then 0 else if n == 1 then 1 else 4

-- what is told of the test was written, and gives the status
pub record TellsAll (test : Test) (counts input : List ℕ) (old new : Option (List ℕ)) (n : ℕ) : Type 0 where
  pub name : List ℕ
  pub text : List ℕ
  pub status : ℕ
  pub tells : TellsAs Global name test.wanted test.limit (lines_of counts) (lines_of input) text status
  pub written : Appends old new text
  pub status_is : n ≡ told_status status

-- nothing was written, for this fault
pub record TellsNone (test : Test) (counts input : List ℕ) (old new : Option (List ℕ)) (n : ℕ) : Type 0 where
  pub fault : TestFault
  pub fails : FailsAs Global test.wanted (lines_of counts) (lines_of input) fault
  pub same : new ≡ old
  pub status_is : n ≡ litmus_status fault

-- the test is told, or why it isn't
abbrev pub TestEnds : Test → List ℕ → List ℕ → Option (List ℕ) → Option (List ℕ) → ℕ → Type 0
TestEnds test counts input old new n = TellsAll test counts input old new n ⊎ TellsNone test counts input old new n

-- of what was read, beside these counts; or a read failed, or was one too many, or a write failed
abbrev pub TellsBeside : Test → List ℕ → ReadFrom → WrittenTo → ℕ → Type 0
TellsBeside test counts text out n =
    Reads text.before text.after (λ input unread. TestEnds test counts input out.before out.after n)
    ⊎ ((n ≡ 3) × (HasStopped text.failed text.reads ⊎ (out.failed ≡ true)))

-- beside the counts that were read; or a read of these failed, or was one too many
abbrev pub TellsTest : Test → ReadFrom → ReadFrom → WrittenTo → ℕ → Type 0
TellsTest test list text out n = Reads list.before list.after (λ counts left. TellsBeside test counts text out n)
    ⊎ ((n ≡ 3) × HasStopped list.failed list.reads)
