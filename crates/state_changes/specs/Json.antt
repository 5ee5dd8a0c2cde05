-- Texts as JSON (RFC 8259) that may stand in a page
use Rattle.std.specs.Prelude.{ℕ, ◌+◌, ◌-◌, ◌/◌, ◌%◌, List, [], ◌∷◌, ◌++◌, codes, if◌then◌else◌, ◌==◌, ◌||◌, nat_lt}
use Rattle.std.specs.List.{flat_map}

abbrev pub hex_digit : ℕ → ℕ
hex_digit n = if nat_lt n 10 then 48 + n else 97 + (n - 10)

-- A byte of a string: a newline, a quote and a backslash behind a backslash, and control bytes and `<`, which would end the
-- data in a page, by their number. All others are themselves.
abbrev pub escaped : ℕ → List ℕ
escaped b = if b == 10 then codes "\\n"
    else if (b == 34) || (b == 92) then 92 ∷ b ∷ []
    else if nat_lt b 32 || (b == 127) || (b == 60) then codes "\\u00" ++ hex_digit (b / 16) ∷ hex_digit (b % 16) ∷ []
    else b ∷ []

-- between quotes
abbrev pub string_text : List ℕ → List ℕ
string_text text = 34 ∷ flat_map escaped text ++ 34 ∷ []
