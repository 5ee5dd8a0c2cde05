-- How often texts came.
use Rattle.std.specs.Prelude.{ℕ, Bool, List, [], ◌∷◌, ◌++◌, codes, count_by, decimal, if◌then◌else◌}
use Rattle.std.specs.List.{list_any}
use Rattle.std.specs.Str.{bytes_eq}

-- it is one of these
abbrev pub is_among : List (List ℕ) → List ℕ → Bool
is_among texts text = list_any (λ other. bytes_eq other text) texts

-- how often it stands among these
abbrev pub often : List (List ℕ) → List ℕ → ℕ
often texts text = count_by (λ other. bytes_eq other text) texts

-- a count of a text
abbrev pub count_line : ℕ → List ℕ → List ℕ
count_line count text = decimal count ++ codes ": " ++ text ++ codes "\n"

-- The counts of texts: each once, at its first place, with how often it stands from there on. The texts before have their counts already.
abbrev pub lines_behind : List (List ℕ) → List (List ℕ) → List ℕ
lines_behind before [] = []
lines_behind before (text ∷ texts) =
    (if is_among before text then [] else count_line (often (text ∷ texts) text) text) ++ lines_behind (before ++ text ∷ []) texts
