-- What explains that there is no order.
use Rattle.std.specs.Prelude.{◌≡◌, ℕ, ◌<◌, ◌⊎◌, Bool, List, [], ◌∷◌, Option, Some, length, slice_get}
use Rattle.vm_base.specs.declared.page.PageRange.{PageRange}
use Rattle.vm_base.specs.Plain.{File, nothing_mapped}
use Rattle.audit.specs.Placing.{rule_of}
use Rattle.audit_text.specs.Legal.{first_map}
use Rattle.orders.specs.declared.history.Timed.{Timed}
use Rattle.orders.specs.Orders.{HasOrder}
use Rattle.orders_text.specs.History.{IsHistory, Read}
use Rattle.cores.specs.Cores.{HasNone as HasNoneOf, IsCore}
use Rattle.cores.specs.Shown.{IsSeen, IsShown}
use Rattle.cores.specs.declared.kept.Kept.{Kept}
use Rattle.core_text.specs.Told.{core_text}
use Rattle.overlapping.specs.Story.{IsStory}
use Rattle.overlapping.specs.Rulings.{HasNone, IsRuling}
use Rattle.overlapping.specs.declared.judging.Ruling.{Ruling}
use Rattle.overlapping.specs.declared.judging.Ruling.TheVariants as Ruled
use Rattle.overlapping.specs.declared.judging.Shown.{Shown}
use Rattle.overlapping.specs.declared.judging.Shown.TheVariants as By
use Rattle.overlapping.specs.declared.judging.Told.{Told}

-- The lines are those of a core of the history until this time, or of the history without its bytes, which has no order by itself: in its
-- pages its first calls leave nothing of what was there.
pub record IsExplanation (any_place : Bool) (lines : List (List ℕ)) (r : Read) (cut : ℕ) (explanation : List ℕ) : Type 0 where
  pub pages : PageRange
  pub number : ℕ
  pub first : Timed
  pub start : Timed
  pub built : ℕ
  pub kept : List Kept
  pub seen : List Timed
  pub sees : IsSeen r.calls seen
  pub is : IsCore seen pages number first start built cut kept
  pub files : ℕ → Option File
  pub alone : HasNoneOf (rule_of any_place) (nothing_mapped files) (start ∷ []) kept
  pub text : explanation ≡ core_text lines r.lines number kept

-- It is told whole: the mappings that its first calls leave, and the lines of the others.
abbrev pub IsWhole : Bool → List (List ℕ) → Read → List ℕ → Type 0
IsWhole any_place lines r explanation = IsStory (rule_of any_place) (first_map r.declared) r.calls lines r.lines explanation

-- It is told whole, or it has more lines than are told, and nothing is.
abbrev pub IsWholeOrLong : Bool → List (List ℕ) → Read → List ℕ → Type 0
IsWholeOrLong any_place lines r explanation =
    IsWhole any_place lines r explanation ⊎ ((explanation ≡ []) × (12 < length r.lines))

-- That the history has no order, by the end of the call of this line, is explained by calls until then, which have none by themselves,
-- or by all of it.
pub record IsReason (any_place : Bool) (lines : List (List ℕ)) (r : Read) (line : ℕ) (explanation : List ℕ) : Type 0 where
  pub number : ℕ
  pub call : Timed
  pub is_call : slice_get r.calls number ≡ Some call
  pub is_line : slice_get r.lines number ≡ Some line
  pub explains : IsExplanation any_place lines r call.end explanation ⊎ IsWholeOrLong any_place lines r explanation

-- So is what stands behind a ruling on a history: behind that it has no order such a reason, and behind any other nothing.
abbrev pub Explains : Bool → List (List ℕ) → Read → Ruling → List ℕ → Type 0
Explains any_place lines r (Ruled.Legal calls) explanation = explanation ≡ []
Explains any_place lines r (Ruled.NoOrder line reply) explanation = IsReason any_place lines r line explanation
Explains any_place lines r (Ruled.Undecided line) explanation = explanation ≡ []

abbrev pub IsExplained : Bool → List (List ℕ) → Ruling → List ℕ → Type 0
IsExplained any_place lines ruling explanation = (r : Read) × IsHistory lines r × Explains any_place lines r ruling explanation

-- ---- how it was shown

abbrev pub ShowsNone : {A : Type 0} → Bool → (ℕ → Option File) → List Timed → Shown A → Type 0
ShowsNone any_place files calls By.Nothing = Unit {0}
ShowsNone any_place files calls By.All = ¬ HasOrder (rule_of any_place) (nothing_mapped files) calls
ShowsNone any_place files calls (By.Few core) = IsShown any_place calls core

abbrev pub IsDisorder : {A : Type 0} → Bool → Read → Shown A → Type 0
IsDisorder any_place r By.Nothing = Unit {0}
IsDisorder any_place r By.All = HasNone any_place r
IsDisorder any_place r (By.Few core) = HasNone any_place r × IsShown any_place r.calls core

-- what is told of a history with these lines, if it is one
pub record IsTold {A : Type 0} (any_place : Bool) (lines : List (List ℕ)) (r : Read) (told : Told A) : Type 0 where
  pub ruling : (ls : List (List ℕ)) → IsHistory ls r → IsRuling any_place ls told.ruling
  pub explained : Explains any_place lines r told.ruling told.explanation.items
