-- Numbers in a trace.
use Rattle.std.specs.Prelude.{ℕ, ◌+◌, ◌-◌, ◌*◌, ◌^◌, ◌&&◌, List, [], ◌∷◌, Option, None, Some}
use Rattle.std.specs.Prelude.{if◌then◌else◌, ◌==◌, nat_lt, nat_le, codes, option_and_then}
use Rattle.trace_text.specs.Words.{byte}

-- what a digit stands for, in any base up to 16
abbrev pub digit_of : ℕ → Option ℕ
digit_of c =
    if nat_le (byte (codes "0")) c && nat_le c (byte (codes "9")) then Some (c - byte (codes "0"))
    else if nat_le (byte (codes "a")) c && nat_le c (byte (codes "f"))
    then Some (c - byte (codes "a") + 10)
    else if nat_le (byte (codes "A")) c && nat_le c (byte (codes "F"))
    then Some (c - byte (codes "A") + 10)
    else None

-- the value of n and then the digits, if they are digits of the base
abbrev pub value_from : ℕ → ℕ → List ℕ → Option ℕ
value_from base n [] = Some n
value_from base n (c ∷ cs) =
    option_and_then (λ d. if nat_lt d base then value_from base (n * base + d) cs else None)
    (digit_of c)

-- a number that fits 64 bits
abbrev pub below_word : Option ℕ → Option ℕ
below_word None = None
below_word (Some n) = if nat_lt n (2 ^ 64) then Some n else None

-- the number that a word spells: decimal, or hexadecimal after 0x
abbrev pub number_of : List ℕ → Option ℕ
number_of [] = None
number_of (c ∷ []) = below_word (value_from 10 0 (c ∷ []))
number_of (c ∷ d ∷ ds) =
    if (c == byte (codes "0")) && (d == byte (codes "x")) then hex_of ds
    else below_word (value_from 10 0 (c ∷ d ∷ ds))
  where
    hex_of : List ℕ → Option ℕ
    hex_of [] = None
    hex_of (e ∷ es) = below_word (value_from 16 0 (e ∷ es))
