-- Counts of outcomes that another system gave, beside those that are listed.
use Rattle.std.specs.Prelude.{ℕ, suc, ◌&&◌, not, Bool, true, false, List, [], ◌∷◌, ◌++◌, Option, None, Some, Vec, codes, drop, map, is_some}
use Rattle.std.specs.Prelude.{if◌then◌else◌, ◌==◌, nat_lt}
use Rattle.std.specs.List.{flat_map, list_any}
use Rattle.std.specs.Str.{bytes_eq}
use Rattle.litmus_merges.specs.declared.asked.Asked.{Asked}
use Rattle.litmus_report.specs.Reports.{Known, are_reached, end_text}
use Rattle.litmus_report.specs.Texts.{finals_text, if_mapped, replies_text}
use Rattle.litmus_report.specs.Verdicts.{Outcome}
use Rattle.litmus_report.specs.declared.counting.CountMark.{CountMark}
use Rattle.litmus_report.specs.declared.counting.CountMark.TheVariants.{Passed, Bad, Listed, Outside}
use Rattle.litmus_report.specs.declared.reporting.Searched.{Searched}

-- ---- a line

-- empty, or a comment
abbrev pub is_passed : List ℕ → Bool
is_passed [] = true
is_passed (x ∷ xs) = x == 35

-- a decimal digit
abbrev pub is_digit : ℕ → Bool
is_digit x = (nat_lt 47 x) && (nat_lt x 58)

-- how many digits stand in front
abbrev pub digits_before : List ℕ → ℕ
digits_before [] = 0
digits_before (x ∷ xs) = if is_digit x then suc (digits_before xs) else 0

-- what stands behind a colon and a space
abbrev pub behind_colon : List ℕ → Option (List ℕ)
behind_colon [] = None
behind_colon (x ∷ []) = None
behind_colon (x ∷ y ∷ outcome) = if (x == 58) && (y == 32) then Some outcome else None

-- the outcome of a line `COUNT: OUTCOME`
abbrev pub counted : List ℕ → Option (List ℕ)
counted line = if digits_before line == 0 then None else behind_colon (drop (digits_before line) line)

-- it is neither passed over nor a count
abbrev pub is_bad : List ℕ → Bool
is_bad line = not (is_passed line) && not (is_some (counted line))

-- the number of the first such line, of which the first has this number
abbrev pub bad_line : ℕ → List (List ℕ) → Option ℕ
bad_line number [] = None
bad_line number (line ∷ lines) = if is_bad line then Some number else bad_line (suc number) lines

-- ---- beside the outcomes that are listed

-- an outcome, as a count has it: nothing is said of whether it is known to come about
abbrev pub plain_text : List Asked → List ℕ → Bool → Outcome → List ℕ
plain_text calls addrs maps o = replies_text 64 calls o.replies ++ finals_text addrs o.finals ++ if_mapped maps o.maps

abbrev pub plain_texts : Known → List (List ℕ)
plain_texts k = map (plain_text k.calls k.addrs k.maps) k.outcomes

-- the bytes of a text
abbrev pub bytes_of : {A : Type 0} → Vec ℕ A → List ℕ
bytes_of text = text.items

-- one of these texts
abbrev pub is_listed : List (List ℕ) → List ℕ → Bool
is_listed texts outcome = list_any (λ text. bytes_eq text outcome) texts

abbrev pub mark_by : List (List ℕ) → Option (List ℕ) → CountMark
mark_by texts None = Bad
mark_by texts (Some outcome) = if is_listed texts outcome then Listed else Outside

-- what a line is
abbrev pub mark_of : List (List ℕ) → List ℕ → CountMark
mark_of texts line = if is_passed line then Passed else mark_by texts (counted line)

-- the line again, with a mark where its outcome isn't listed
abbrev pub marked_text : CountMark → List ℕ → List ℕ
marked_text Passed line = []
marked_text Bad line = []
marked_text Listed line = line ++ codes "\n"
marked_text Outside line = line ++ codes " (outside)\n"

abbrev pub count_line : List (List ℕ) → List ℕ → List ℕ
count_line texts line = marked_text (mark_of texts line) line

abbrev pub is_outside : CountMark → Bool
is_outside Outside = true
is_outside mark = false

-- one of the lines has an outcome that isn't listed
abbrev pub has_outside : List (List ℕ) → List (List ℕ) → Bool
has_outside texts lines = list_any (λ line. is_outside (mark_of texts line)) lines

-- one of the lines is a count
abbrev pub has_counts : List (List ℕ) → Bool
has_counts lines = list_any (λ line. not (is_passed line)) lines

-- how the search for outcomes ended, where something was counted
abbrev pub judged_end : Bool → Searched → Bool → List ℕ
judged_end counted searched exact = if counted then end_text searched exact else codes "nothing was observed\n"

-- the counts, each marked, and how the search for outcomes ended
abbrev pub counts_text : Known → Searched → List (List ℕ) → List ℕ
counts_text k searched lines =
    flat_map (count_line (plain_texts k)) lines ++ judged_end (has_counts lines) searched (are_reached k.outcomes)

-- 1 where an outcome can't come about, and 3 where that isn't known of one, since not all outcomes are listed
abbrev pub outside_status : Bool → Bool → ℕ
outside_status outside whole = if outside then (if whole then 1 else 3) else 0

-- the same, and 3 where nothing was counted
abbrev pub judged_status : Bool → Bool → Bool → ℕ
judged_status counted outside whole = if counted then outside_status outside whole else 3

abbrev pub counts_status : Known → Bool → List (List ℕ) → ℕ
counts_status k whole lines = judged_status (has_counts lines) (has_outside (plain_texts k) lines) whole
