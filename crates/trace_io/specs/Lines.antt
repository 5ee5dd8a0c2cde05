-- The lines of a text, and what a reader of lines takes.
use Rattle.std.specs.Prelude.{◌≡◌, ℕ, ◌<◌, ◌≤◌, List, [], ◌∷◌, ◌++◌, ◌⊎◌, length, take}
use Rattle.std.specs.Prelude.{slice_index, if◌then◌else◌, ◌==◌}

-- a byte before the first of the lines
abbrev pub onto : ℕ → List (List ℕ) → List (List ℕ)
onto x [] = (x ∷ []) ∷ []
onto x (l ∷ ls) = (x ∷ l) ∷ ls

-- the lines, each without its newline; the last one need not have a newline
abbrev pub lines_of : List ℕ → List (List ℕ)
lines_of [] = []
lines_of (x ∷ xs) = if x == 10 then [] ∷ lines_of xs else onto x (lines_of xs)

-- no newline is among the bytes
abbrev pub IsUnbroken : List ℕ → Type 0
IsUnbroken bs = (k : ℕ) → k < length bs → slice_index bs k ≡ 10 → ⊥

-- the first line of bs is longer than a line may be
abbrev pub IsTooLong : List ℕ → Type 0
IsTooLong bs = (256 < length bs) × IsUnbroken (take 257 bs)

-- xs is a line, its newline and ys, or a last line that has no newline
abbrev pub IsFirstLine : List ℕ → List ℕ → List ℕ → Type 0
IsFirstLine xs line ys = (xs ≡ line ++ 10 ∷ ys) ⊎ ((xs ≡ line) × (ys ≡ []) × (0 < length line))

-- the line is of allowed length, has no newline, and is the first of xs, behind which ys come
pub record TakesLine (xs line ys : List ℕ) : Type 0 where
  pub short : length line ≤ 256
  pub unbroken : IsUnbroken line
  pub first : IsFirstLine xs line ys
