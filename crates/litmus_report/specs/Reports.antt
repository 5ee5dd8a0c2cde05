-- What is told of a litmus test.
use Rattle.std.specs.Prelude.{◌≡◌, ℕ, suc, ◌&&◌, Bool, true, false, not, ◌||◌, List, [], ◌∷◌, ◌++◌, All, Some, Vec, codes, decimal, length, map}
use Rattle.std.specs.Prelude.{slice_get, if◌then◌else◌}
use Rattle.std.specs.Prelude.{IsPermutation, IsSorted}
use Rattle.std.specs.Ordering.{nat_cmp}
use Rattle.std.specs.List.{flat_map, list_all, list_any}
use Rattle.std.specs.Cmp.Lexicographic.{slice_cmp}
use Rattle.litmus_merges.specs.declared.asked.Asked.{Asked}
use Rattle.litmus_text.specs.Scripts.{Claim}
use Rattle.litmus_report.specs.Texts.{clause_text, observation_text, outcome_text, verdict_text}
use Rattle.litmus_report.specs.Verdicts.{Outcome, condition_holds, count_so, is_so, judged, names_lack}
use Rattle.litmus_report.specs.declared.reporting.Searched.{Searched}
use Rattle.litmus_report.specs.declared.verdict.Named.{Named}
use Rattle.litmus_report.specs.declared.verdict.ClauseVerdict.{ClauseVerdict}
use Rattle.litmus_report.specs.declared.verdict.ClauseVerdict.TheVariants.{Holds, Fails, Open}

-- ---- the order of outcomes

-- the text of a row; its outcome's place is beside it
abbrev pub row_text : {A : Type 0} → Vec ℕ A × ℕ → List ℕ
row_text row = row.0.items

-- each row has the text of the outcome at its place
abbrev pub ArePlaced : {A : Type 0} → List (List ℕ) → List (Vec ℕ A × ℕ) → Type 0
ArePlaced texts rows = All (λ row. slice_get texts row.1 ≡ Some (row_text row)) rows

-- the rows of these texts, in their order
pub record AreRows {A : Type 0} (texts : List (List ℕ)) (rows : List (Vec ℕ A × ℕ)) : Type 0 where
  pub placed : ArePlaced texts rows
  pub same : map row_text rows ≡ texts

-- the rows of these texts in the order of their bytes, each text as often as it was
pub record AreSorted {A : Type 0} (texts : List (List ℕ)) (rows : List (Vec ℕ A × ℕ)) : Type 0 where
  pub placed : ArePlaced texts rows
  pub same : IsPermutation texts (map row_text rows)
  pub sorted : IsSorted (slice_cmp nat_cmp) (map row_text rows)

-- ---- the text

-- the texts with their numbers, from this one on
abbrev pub numbered : ℕ → List (List ℕ) → List ℕ
numbered n [] = []
numbered n (text ∷ texts) = decimal n ++ codes ": " ++ text ++ codes "\n" ++ numbered (suc n) texts

-- whether the outcomes are all, and each is known to come about
abbrev pub end_text : Searched → Bool → List ℕ
end_text s exact = if not s.whole then codes "stopped at the limit of " ++ decimal s.limit ++ codes " points\n"
    else (if s.lacks_frames then codes "noframe is left out\n" else []) ++ (if s.lacks_maps then codes "maps are left out\n" else [])
    ++ (if exact then codes "exact\n" else codes "open\n")

-- what is known of the outcomes of which a clause speaks, and whether mappings belong to them
pub record Known : Type 0 where
  pub calls : List Asked
  pub addrs : List ℕ
  pub maps : Bool
  pub outcomes : List Outcome

-- by what the facts of clauses are about
abbrev pub known : Named → List Outcome → Known
known named outcomes = record { calls = named.calls.now; addrs = named.addrs.now; maps = named.maps; outcomes = outcomes }

-- the texts of the outcomes
abbrev pub texts_of : Known → List (List ℕ)
texts_of k = map (outcome_text k.calls k.addrs k.maps) k.outcomes

-- Where outcomes without a frame are left out, a clause that names want of a frame or of memory is open.
abbrev pub verdict_on : Known → Searched → Claim → ClauseVerdict
verdict_on k s c = if s.lacks_frames && list_any (λ t. names_lack t.fact) c.terms then Open
    else judged c.quantifier (condition_holds k.calls k.addrs c.terms) k.outcomes s.whole

-- a clause, and what it comes to
abbrev pub judgement_text : Known → Searched → Claim → List ℕ
judgement_text k s c = clause_text c ++ verdict_text (verdict_on k s c)

-- of how many outcomes that are known to come about its condition holds, or doesn't, as is wanted
abbrev pub count_on : Known → Bool → Claim → ℕ
count_on k wanted c = count_so (λ o. is_so wanted (condition_holds k.calls k.addrs c.terms o)) k.outcomes

abbrev pub count_text : List ℕ → Known → Claim → List ℕ
count_text name k c = observation_text name (count_on k true c) (count_on k false c)

abbrev pub are_reached : List Outcome → Bool
are_reached outcomes = list_all (λ o. o.reached) outcomes

abbrev pub report_text : List ℕ → Known → Searched → List Claim → List (List ℕ) → List ℕ
report_text name k searched claims texts = codes "outcomes " ++ decimal (length k.outcomes) ++ codes "\n" ++ numbered 1 texts
    ++ end_text searched (are_reached k.outcomes)
    ++ flat_map (judgement_text k searched) claims ++ flat_map (count_text name k) claims

-- ---- the status

abbrev pub is_failed : ClauseVerdict → Bool
is_failed Fails = true
is_failed verdict = false

abbrev pub is_open : ClauseVerdict → Bool
is_open Open = true
is_open verdict = false

-- 1 where a clause fails; 3 where one is open, or not all outcomes are known; and else 0
abbrev pub status_of : Known → Searched → List Claim → ℕ
status_of k s claims = if list_any (λ c. is_failed (verdict_on k s c)) claims then 1
    else if not s.whole || list_any (λ c. is_open (verdict_on k s c)) claims then 3 else 0
