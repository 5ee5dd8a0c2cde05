-- The tokens of a line of strace: its bytes up to gaps.
use Rattle.std.specs.Prelude.{ℕ, Bool, false, ◌||◌, List, [], ◌∷◌, Option, None, Some, if◌then◌else◌, ◌==◌, codes, drop, length, take}
use Rattle.std.specs.Str.{bytes_eq}
use Rattle.trace_text.specs.Number.{below_word, number_of, value_from}
use Rattle.trace_text.specs.Request.{◌>>=◌}
use Rattle.trace_text.specs.Words.{byte}

-- a token, as its bytes
abbrev pub Token : Type 0
Token = List ℕ

-- the byte is a space, a comma, a parenthesis or a bracket
abbrev pub is_gap : ℕ → Bool
is_gap x = (x == byte (codes " ")) || (x == byte (codes ",")) || (x == byte (codes "(")) || (x == byte (codes ")"))
    || (x == byte (codes "[")) || (x == byte (codes "]"))

-- the bytes from the first token on
abbrev pub from_token : List ℕ → List ℕ
from_token [] = []
from_token (x ∷ xs) = if is_gap x then from_token xs else x ∷ xs

-- the bytes before the first gap
abbrev pub up_to_gap : List ℕ → List ℕ
up_to_gap [] = []
up_to_gap (x ∷ xs) = if is_gap x then [] else x ∷ up_to_gap xs

-- the bytes from the first gap on
abbrev pub from_gap : List ℕ → List ℕ
from_gap [] = []
from_gap (x ∷ xs) = if is_gap x then x ∷ xs else from_gap xs

-- the token that the bytes begin with, and the bytes after it
abbrev pub cut_token : List ℕ → Option (Token × List ℕ)
cut_token [] = None
cut_token (x ∷ xs) = Some (up_to_gap (x ∷ xs), from_gap (x ∷ xs))

-- the first token, and the bytes after it
abbrev pub front_token : List ℕ → Option (Token × List ℕ)
front_token bytes = cut_token (from_token bytes)

-- the number that the first token spells, and the bytes after it
unfoldable pub front_count : List ℕ → Option (ℕ × List ℕ)
front_count bytes = do
  first ← front_token bytes
  number ← number_of first.0
  Some (number, first.1)

-- where no byte is left
abbrev pub at_end : {A : Type 0} → List ℕ → A → Option A
at_end [] x = Some x
at_end (b ∷ bs) x = None

-- the number that the only token spells
unfoldable pub only_count : List ℕ → Option ℕ
only_count bytes = do
  first ← front_count bytes
  at_end (from_token first.1) first.0

-- the number below 2^64 that hexadecimal digits spell
abbrev pub hexadecimal : List ℕ → Option ℕ
hexadecimal digits = below_word (value_from 16 0 digits)

-- with one byte more in front, or divided at that byte where nothing was
abbrev pub divided_at : ℕ → ℕ → List ℕ → Option (List ℕ × List ℕ) → Option (List ℕ × List ℕ)
divided_at mark x xs (Some parts) = Some (x ∷ parts.0, parts.1)
divided_at mark x xs None = if x == mark then Some ([], xs) else None

-- what stands before the last of these bytes, and behind it
abbrev pub split_at_last : ℕ → List ℕ → Option (List ℕ × List ℕ)
split_at_last mark [] = None
split_at_last mark (x ∷ xs) = divided_at mark x xs (split_at_last mark xs)

-- the bytes begin with the name
abbrev pub begins_by : List ℕ → List ℕ → Bool
begins_by name bytes = bytes_eq (take (length name) bytes) name

-- what stands behind the name, where the bytes begin with it
abbrev pub stripped : List ℕ → List ℕ → Option (List ℕ)
stripped name bytes = if begins_by name bytes then Some (drop (length name) bytes) else None

-- the name stands somewhere in the bytes
abbrev pub occurs : List ℕ → List ℕ → Bool
occurs name [] = false
occurs name (x ∷ xs) = begins_by name (x ∷ xs) || occurs name xs
