-- What stands in quotes.
use Rattle.std.specs.Prelude.{ℕ, List, [], ◌∷◌, if◌then◌else◌, ◌==◌, codes}
use Rattle.trace_text.specs.Words.{byte}

-- what stands behind the first quote
abbrev pub past_quote : List ℕ → List ℕ
past_quote [] = []
past_quote (x ∷ xs) = if x == byte (codes "\"") then xs else past_quote xs

-- what stands before the first quote
abbrev pub up_to_quote : List ℕ → List ℕ
up_to_quote [] = []
up_to_quote (x ∷ xs) = if x == byte (codes "\"") then [] else x ∷ up_to_quote xs

-- what stands between the first two quotes
abbrev pub quoted : List ℕ → List ℕ
quoted text = up_to_quote (past_quote text)
