-- What a log looks like of which nothing was kept.
use Rattle.std.specs.Prelude.{ℕ, Bool, true, false, not, ◌||◌, ◌&&◌, List, [], ◌∷◌, Option, None, Some, if◌then◌else◌, ◌==◌, codes, nat_lt}
use Rattle.std.specs.Str.{bytes_eq}
use Rattle.import_forms.specs.Tokens.{Token, begins_by, front_token}
use Rattle.import_forms.specs.declared.looks.Looks.{Looks}
use Rattle.import_forms.specs.declared.looks.Looks.TheVariants.{Lackey, Trace, Bytes, Other}

-- a control character, but for a tab and a carriage return
abbrev pub is_control : ℕ → Bool
is_control x = nat_lt x 32 && not (x == 9) && not (x == 13)

abbrev pub are_text : List ℕ → Bool
are_text [] = true
are_text (x ∷ xs) = if is_control x then false else are_text xs

-- an access of lackey's: I, L, S or M
abbrev pub is_access : Token → Bool
is_access token = bytes_eq token (codes "I") || bytes_eq token (codes "L") || bytes_eq token (codes "S") || bytes_eq token (codes "M")

abbrev pub looks_by : Option (Token × List ℕ) → Looks
looks_by None = Other
looks_by (Some first) = if begins_by (codes "==") first.0 || is_access first.0 then Lackey
    else if bytes_eq first.0 (codes "vm") || begins_by (codes "#") first.0 then Trace
    else Other

-- what the line looks like
abbrev pub looks_of : List ℕ → Looks
looks_of line = if are_text line then looks_by (front_token line) else Bytes
