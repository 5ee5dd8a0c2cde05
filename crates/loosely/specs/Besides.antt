-- What the rule that kernels keep says of calls that have no order at one moment, and how their judgement ends.
use Rattle.std.specs.Prelude.{◌≡◌, ℕ, Bool, true, false, List, [], ◌++◌, Option, Result, Ok, Err, codes}
use Rattle.std.specs.Io.KnownBytes.{Keeps, Appends}
use Rattle.trace_io.specs.Lines.{lines_of}
use Rattle.trace_io.specs.Sink.{AppendsFront}
use Rattle.trace_io.specs.declared.fault.IoFault.TheVariants.{ReadFailed, WriteFailed}
use Rattle.audit.specs.Placing.{rule_of}
use Rattle.orders_text.specs.Faults.{IsAtFault}
use Rattle.orders_text.specs.History.{IsHistory, Read}
use Rattle.orders_text.specs.declared.faults.HistoryFault.{HistoryFault}
use Rattle.orders_text.specs.declared.faults.HistoryFault.TheVariants.{Io}
use Rattle.loose_orders.specs.Kernel.{HasKernelOrder}
use Rattle.overlapping.specs.Ends.{ruling_text}
use Rattle.overlapping.specs.Explained.{IsExplained}
use Rattle.overlapping.specs.Rulings.{IsRuling}
use Rattle.overlapping.specs.declared.judging.Ruling.{Ruling}
use Rattle.overlapping.specs.declared.judging.Ruling.TheVariants as Ruled
use Rattle.loosely.specs.Rulings.{IsLegal}
use Rattle.loosely.specs.declared.besides.Besides.{Besides}
use Rattle.loosely.specs.declared.besides.Besides.TheVariants.{Nothing, Kernel, Moving}
use Rattle.loosely.specs.declared.telling.Judged.{Judged}

-- ---- what is said

-- The text is that of a history whose calls are legal by the kernels' rule; or by it, if threads may move between cores.
abbrev pub Holds : Bool → List (List ℕ) → Besides → Type 0
Holds any_place lines Nothing = Unit {0}
Holds any_place lines Kernel = (calls : ℕ) × IsLegal (HasKernelOrder (rule_of any_place) false) lines calls
Holds any_place lines Moving = (calls : ℕ) × IsLegal (HasKernelOrder (rule_of any_place) true) lines calls

-- it holds of each text that has this history
pub record IsFound (any_place : Bool) (r : Read) (besides : Besides) : Type 0 where
  pub holds : (lines : List (List ℕ)) → IsHistory lines r → Holds any_place lines besides

abbrev pub is_told : Besides → Bool
is_told Nothing = false
is_told Kernel = true
is_told Moving = true

abbrev pub is_no_order : Ruling → Bool
is_no_order (Ruled.Legal calls) = false
is_no_order (Ruled.NoOrder line reply) = true
is_no_order (Ruled.Undecided line) = false

-- It is said only of calls that have no order at one moment, and only where that isn't the one rule that is asked for.
pub record IsBesides (is_alone any_place : Bool) (lines : List (List ℕ)) (ruling : Ruling) (besides : Besides) : Type 0 where
  pub holds : Holds any_place lines besides
  pub unordered : is_told besides ≡ true → is_no_order ruling ≡ true
  pub asked : is_told besides ≡ true → is_alone ≡ false

abbrev pub besides_text : Besides → List ℕ
besides_text Nothing = []
besides_text Kernel = codes "legal by --kernel\n"
besides_text Moving = codes "legal by --kernel --moving: did threads move?\n"

-- ---- the end

-- the ruling was written, what explains it, and what is said besides
pub record Judges (is_alone any_place : Bool) (input : List ℕ) (old new : Option (List ℕ)) (ruling : Ruling) (besides : Besides) : Type 0 where
  pub is : IsRuling any_place (lines_of input) ruling
  pub explanation : List ℕ
  pub explained : IsExplained any_place (lines_of input) ruling explanation
  pub also : IsBesides is_alone any_place (lines_of input) ruling besides
  pub written : Appends old new ((ruling_text ruling ++ explanation) ++ besides_text besides)

-- a front of it was
pub record Breaks (is_alone any_place : Bool) (input : List ℕ) (old new : Option (List ℕ)) : Type 0 where
  pub ruling : Ruling
  pub besides : Besides
  pub is : IsRuling any_place (lines_of input) ruling
  pub explanation : List ℕ
  pub explained : IsExplained any_place (lines_of input) ruling explanation
  pub also : IsBesides is_alone any_place (lines_of input) ruling besides
  pub written : AppendsFront old new ((ruling_text ruling ++ explanation) ++ besides_text besides)

-- after a fault nothing was written, but after a failed write
abbrev pub Fails : Bool → Bool → List ℕ → Option (List ℕ) → Option (List ℕ) → HistoryFault → Type 0
Fails is_alone any_place input old new (Io WriteFailed) = Breaks is_alone any_place input old new
Fails is_alone any_place input old new (Io ReadFailed) = Keeps old new
Fails is_alone any_place input old new f = IsAtFault (lines_of input) f × Keeps old new

abbrev pub CallsEnd :
    {A : Type 0} → Bool → Bool → List ℕ → Option (List ℕ) → Option (List ℕ) → Result (Judged A) HistoryFault → Type 0
CallsEnd is_alone any_place input old new (Ok judged) = Judges is_alone any_place input old new judged.ruled.ruling judged.besides
CallsEnd is_alone any_place input old new (Err f) = Fails is_alone any_place input old new f
