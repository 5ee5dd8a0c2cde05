-- When a line of strace was written, as its first words say.
use Rattle.std.specs.Prelude.{ℕ, zero, suc, ◌+◌, ◌-◌, ◌*◌, ◌^◌, Bool, true, false, ◌&&◌, ◌||◌, List, [], ◌∷◌, Option, None, Some, if◌then◌else◌, ◌==◌, codes}
use Rattle.std.specs.Prelude.{length, min, nat_le, nat_lt}
use Rattle.std.specs.Str.{bytes_eq}
use Rattle.trace_text.specs.Words.{byte}
use Rattle.trace_text.specs.Request.{◌>>=◌}
use Rattle.import_forms.specs.Stamps.{is_time}
use Rattle.import_forms.specs.Tokens.{Token, front_token, split_at_last}

-- a decimal digit
abbrev pub is_digit : ℕ → Bool
is_digit x = nat_le (byte (codes "0")) x && nat_le x (byte (codes "9"))

-- how many digits stand first
abbrev pub front_digits : List ℕ → ℕ
front_digits [] = 0
front_digits (x ∷ xs) = if is_digit x then front_digits xs + 1 else 0

-- a digit, or the point between those of a time
abbrev pub is_of_time : ℕ → Bool
is_of_time x = is_digit x || (x == byte (codes "."))

abbrev pub are_of_time : List ℕ → Bool
are_of_time [] = true
are_of_time (x ∷ xs) = is_of_time x && are_of_time xs

-- n with one digit more, at most 2^64 - 1; another byte says nothing
abbrev pub with_digit : ℕ → ℕ → ℕ
with_digit n x = if nat_lt x 48 then n else if nat_lt 57 x then n else min (min (n * 10) (2 ^ 64 - 1) + (x - 48)) (2 ^ 64 - 1)

-- the number that n and the digits behind it spell
abbrev pub digits_from : ℕ → List ℕ → ℕ
digits_from n [] = n
digits_from n (x ∷ xs) = digits_from (with_digit n x) xs

abbrev pub is_long : Option (List ℕ × List ℕ) → Bool
is_long None = false
is_long (Some parts) = nat_le 6 (length parts.1)

-- six digits stand behind the last point, or more
abbrev pub is_fine : Token → Bool
is_fine token = is_long (split_at_last (byte (codes ".")) token)

-- The seconds since 1970, which have ten digits since 2001, with microseconds or nanoseconds, since many calls are of one second. A time of the
-- day is none: midnight may have passed between two of those.
abbrev pub is_moment : Token → Bool
is_moment token = are_of_time token && is_fine token && nat_le 10 (front_digits token)

-- the number that its digits spell
abbrev pub moment_named : Token → Option ℕ
moment_named token = if is_moment token then Some (digits_from 0 token) else None

-- what may stand before a time: a number, or the word `pid` before one
abbrev pub goes_before : Token → Bool
goes_before token = nat_le 1 (front_digits token) || bytes_eq token (codes "pid")

abbrev pub moment_first : Option ℕ → Option ℕ → Option ℕ
moment_first None later = later
moment_first (Some moment) later = Some moment

abbrev pub moment_next : (List ℕ → Option ℕ) → Option (Token × List ℕ) → Option ℕ
moment_next more None = None
moment_next more (Some t) = moment_first (moment_named t.0) (if goes_before t.0 then more t.1 else None)

-- the time among the first n words, behind such words alone
abbrev pub moment_within : ℕ → List ℕ → Option ℕ
moment_within zero bytes = None
moment_within (suc n) bytes = moment_next (moment_within n) (front_token bytes)

-- the time that a line tells, behind at most `pid` and a number
abbrev pub moment_of : List ℕ → Option ℕ
moment_of line = moment_within 3 line

-- ---- in nanoseconds

-- digits of seconds since 1970, in which these have ten, as nanoseconds: with six behind the point, or nine
abbrev pub since_1970 : ℕ → Option ℕ
since_1970 n = if nat_lt n (10 ^ 15) then None
    else if nat_lt n (9 * 10 ^ 15) then Some (n * 1000)
    else if nat_lt n (10 ^ 18) then None
    else if nat_lt n (9 * 10 ^ 18) then Some n
    else None

-- the time that a line tells before its call
unfoldable pub began_ns : List ℕ → Option ℕ
began_ns line = do
  moment ← moment_of line
  since_1970 moment

-- digits of which so many bytes stand behind the point, a `>` among them, as nanoseconds
abbrev pub long_for : ℕ → ℕ → Option ℕ
long_for n places = if (places == 7) && nat_lt n (9 * 10 ^ 15) then Some (n * 1000)
    else if (places == 10) && nat_lt n (9 * 10 ^ 18) then Some n
    else None

-- how long a call took, `<SECONDS>` at the end of its line
unfoldable pub took_ns : List ℕ → Option ℕ
took_ns line = do
  words ← split_at_last (byte (codes " ")) line
  point ← split_at_last (byte (codes ".")) words.1
  if is_time words.1 then long_for (digits_from 0 words.1) (length point.1) else None

-- when the call of a line ended
unfoldable pub ended_ns : List ℕ → Option ℕ
ended_ns line = do
  began ← began_ns line
  took ← took_ns line
  Some (began + took)
