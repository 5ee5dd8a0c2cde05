-- How the judgement of calls that overlap ends, and what it writes.
use Rattle.std.specs.Prelude.{ℕ, List, ◌++◌, Option, Result, Ok, Err}
use Rattle.std.specs.Io.KnownBytes.{Keeps, Appends}
use Rattle.trace_io.specs.Lines.{lines_of}
use Rattle.trace_io.specs.Sink.{AppendsFront}
use Rattle.trace_io.specs.declared.fault.IoFault.TheVariants.{ReadFailed, WriteFailed}
use Rattle.orders_text.specs.Faults.{IsAtFault}
use Rattle.orders_text.specs.declared.faults.HistoryFault.{HistoryFault}
use Rattle.orders_text.specs.declared.faults.HistoryFault.TheVariants.{Io}
use Rattle.overlapping.specs.Ends.{ruling_text}
use Rattle.overlapping.specs.declared.judging.Ruled.{Ruled}
use Rattle.overlapping.specs.declared.judging.Ruling.{Ruling}
use Rattle.loosely.specs.Rulings.{IsRuling, OrderRule}

-- what it is that lines explain a ruling on a text
abbrev pub ExplanationRule : Type 1
ExplanationRule = (lines : List (List ℕ)) (ruling : Ruling) (explanation : List ℕ) → Type 0

-- it was written, and what explains it
pub record Judges (has : OrderRule) (explains : ExplanationRule) (input : List ℕ) (old new : Option (List ℕ)) (ruling : Ruling) : Type 0 where
  pub is : IsRuling has (lines_of input) ruling
  pub explanation : List ℕ
  pub explained : explains (lines_of input) ruling explanation
  pub written : Appends old new (ruling_text ruling ++ explanation)

-- a front of it was
pub record Breaks (has : OrderRule) (explains : ExplanationRule) (input : List ℕ) (old new : Option (List ℕ)) : Type 0 where
  pub ruling : Ruling
  pub is : IsRuling has (lines_of input) ruling
  pub explanation : List ℕ
  pub explained : explains (lines_of input) ruling explanation
  pub written : AppendsFront old new (ruling_text ruling ++ explanation)

-- after a fault nothing was written, but after a failed write
abbrev pub Fails : OrderRule → ExplanationRule → List ℕ → Option (List ℕ) → Option (List ℕ) → HistoryFault → Type 0
Fails has explains input old new (Io WriteFailed) = Breaks has explains input old new
Fails has explains input old new (Io ReadFailed) = Keeps old new
Fails has explains input old new f = IsAtFault (lines_of input) f × Keeps old new

abbrev pub JudgementEnds :
    {A : Type 0} → OrderRule → ExplanationRule → List ℕ → Option (List ℕ) → Option (List ℕ) → Result (Ruled A) HistoryFault → Type 0
JudgementEnds has explains input old new (Ok ruled) = Judges has explains input old new ruled.ruling
JudgementEnds has explains input old new (Err f) = Fails has explains input old new f
