-- The lines of a core's calls
use Rattle.std.specs.Prelude.{ℕ, ◌-◌, List, [], ◌∷◌, ◌++◌, codes, decimal, get_or}
use Rattle.cores.specs.declared.kept.Kept.{Kept}

-- a line of the text, counted from 1, behind its number
abbrev pub told_line : List (List ℕ) → ℕ → List ℕ
told_line lines number = decimal number ++ codes ": " ++ get_or lines (number - 1) [] ++ codes "\n"

-- those of calls, by the numbers of the lines of all calls
abbrev pub kept_text : List (List ℕ) → List ℕ → List Kept → List ℕ
kept_text lines numbers [] = []
kept_text lines numbers (k ∷ ks) = told_line lines (get_or numbers k.number 0) ++ kept_text lines numbers ks

-- those of a core: that of its first call, which has this number, and those of the others
abbrev pub core_text : List (List ℕ) → List ℕ → ℕ → List Kept → List ℕ
core_text lines numbers first ks = told_line lines (get_or numbers first 0) ++ kept_text lines numbers ks

-- those with these numbers
abbrev pub numbered_text : List (List ℕ) → List ℕ → List ℕ
numbered_text lines [] = []
numbered_text lines (n ∷ ns) = told_line lines n ++ numbered_text lines ns
