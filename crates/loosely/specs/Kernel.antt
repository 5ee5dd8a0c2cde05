-- How the judgement by the kernels' rule ends, and what explains that there is no order
use Rattle.std.specs.Prelude.{◌≡◌, ℕ, Bool, List, [], ◌∷◌, Option, Result, Some, slice_get}
use Rattle.vm_base.specs.declared.page.PageRange.{PageRange}
use Rattle.vm_base.specs.Plain.{File, nothing_mapped}
use Rattle.audit.specs.Placing.{rule_of}
use Rattle.orders.specs.declared.history.Timed.{Timed}
use Rattle.orders_text.specs.History.{IsHistory, Read}
use Rattle.orders_text.specs.declared.faults.HistoryFault.{HistoryFault}
use Rattle.cores.specs.Cores.{HasNone as HasNoneOf, IsCore}
use Rattle.cores.specs.Shown.{IsSeen, IsShown}
use Rattle.cores.specs.declared.finding.Core.{Core}
use Rattle.cores.specs.declared.kept.Kept.{Kept}
use Rattle.core_text.specs.Told.{core_text}
use Rattle.loose_orders.specs.Kernel.{HasKernelOrder}
use Rattle.overlapping.specs.declared.judging.Ruled.{Ruled as RuledText}
use Rattle.overlapping.specs.declared.judging.Ruling.{Ruling}
use Rattle.overlapping.specs.declared.judging.Ruling.TheVariants as Ruled
use Rattle.overlapping.specs.declared.judging.Told.{Told}
use Rattle.loosely.specs.Ends.{JudgementEnds}
use Rattle.loosely.specs.Rulings.{IsRuling}
use Rattle.loose_orders.specs.Timely.{AreWithoutLate, NoneIsPart}

-- It is a core of the calls without the accesses that may be late, and none of the calls is a refused mprotect that may have changed some pages.
abbrev pub IsCoreByKernel : {A : Type 0} → Bool → List Timed → Core A → Type 0
IsCoreByKernel any_place h core = NoneIsPart h × ((taken : List Timed) × AreWithoutLate h taken × IsShown any_place taken core)

-- The lines tell a core of the history's calls until this time without the accesses that may be late, or of these without their bytes. It has no
-- order at one moment by itself: in its pages its first calls leave nothing of what was there.
pub record TellsCoreWithoutLate (any_place : Bool) (lines : List (List ℕ)) (r : Read) (cut : ℕ) (explanation : List ℕ) : Type 0 where
  pub pages : PageRange
  pub number : ℕ
  pub first : Timed
  pub start : Timed
  pub built : ℕ
  pub kept : List Kept
  pub taken : List Timed
  pub takes : AreWithoutLate r.calls taken
  pub seen : List Timed
  pub sees : IsSeen taken seen
  pub is : IsCore seen pages number first start built cut kept
  pub files : ℕ → Option File
  pub alone : HasNoneOf (rule_of any_place) (nothing_mapped files) (start ∷ []) kept
  pub text : explanation ≡ core_text lines r.lines number kept

-- That the history has no order, by the end of the call of this line, is explained by calls until then: none of them may be late, and they have
-- none by themselves.
pub record IsReasonByKernel (any_place : Bool) (lines : List (List ℕ)) (r : Read) (line : ℕ) (explanation : List ℕ) : Type 0 where
  pub number : ℕ
  pub call : Timed
  pub is_call : slice_get r.calls number ≡ Some call
  pub is_line : slice_get r.lines number ≡ Some line
  pub tells : TellsCoreWithoutLate any_place lines r call.end explanation

-- So is what stands behind a ruling on a history: behind that it has no order such a reason, and behind any other nothing.
abbrev pub ExplainsByKernel : Bool → List (List ℕ) → Read → Ruling → List ℕ → Type 0
ExplainsByKernel any_place lines r (Ruled.Legal calls) explanation = explanation ≡ []
ExplainsByKernel any_place lines r (Ruled.NoOrder line reply) explanation = IsReasonByKernel any_place lines r line explanation
ExplainsByKernel any_place lines r (Ruled.Undecided line) explanation = explanation ≡ []

-- the same of a text
abbrev pub IsExplainedByKernel : Bool → List (List ℕ) → Ruling → List ℕ → Type 0
IsExplainedByKernel any_place lines ruling explanation =
    (r : Read) × IsHistory lines r × ExplainsByKernel any_place lines r ruling explanation

-- what is told of a history with these lines, if it is one
pub record IsTold {A : Type 0} (any_place moving : Bool) (lines : List (List ℕ)) (r : Read) (told : Told A) : Type 0 where
  pub ruling : (ls : List (List ℕ)) → IsHistory ls r → IsRuling (HasKernelOrder (rule_of any_place) moving) ls told.ruling
  pub explained : ExplainsByKernel any_place lines r told.ruling told.explanation.items

abbrev pub EndsByKernel : {A : Type 0} → Bool → Bool → List ℕ → Option (List ℕ) → Option (List ℕ) → Result (RuledText A) HistoryFault → Type 0
EndsByKernel any_place moving input old new r =
    JudgementEnds (HasKernelOrder (rule_of any_place) moving) (IsExplainedByKernel any_place) input old new r
