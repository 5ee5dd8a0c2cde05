-- The front of a text, up to one of its lines
use Rattle.std.specs.Prelude.{◌≡◌, ℕ, ◌++◌, List, Option, None, Some, length, nat_lt, take, if◌then◌else◌}
use Rattle.trace_io.specs.Lines.{lines_of}

-- the first lines, or all
abbrev pub lines_to : Option ℕ → List (List ℕ) → List (List ℕ)
lines_to None lines = lines
lines_to (Some n) lines = take n lines

-- the front of the text that has the first lines, or the whole text
abbrev pub IsFront : Option ℕ → List ℕ → List ℕ → Type 0
IsFront None text front = front ≡ text
IsFront (Some n) text front =
    ((rest : List ℕ) × (text ≡ front ++ rest)) × (lines_of front ≡ lines_to (Some n) (lines_of text))

-- how many lines there are, where the one that is asked for is behind them all
abbrev pub lacking_line : Option ℕ → List (List ℕ) → Option ℕ
lacking_line None lines = None
lacking_line (Some n) lines = if nat_lt (length lines) n then Some (length lines) else None
