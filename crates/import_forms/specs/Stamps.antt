-- What strace writes before a call and behind it: a thread, times, the call's number, an address, and how long it took.
use Rattle.std.specs.Prelude.{ℕ, zero, suc, ◌^◌, Bool, true, false, ◌||◌, ◌&&◌, List, [], ◌∷◌, Option, None, Some, if◌then◌else◌, ◌==◌, codes, nat_le}
use Rattle.std.specs.Prelude.{nat_lt, option_map, unwrap_or}
use Rattle.std.specs.Str.{bytes_eq}
use Rattle.trace_text.specs.Number.{number_of}
use Rattle.trace_text.specs.Request.{◌>>=◌}
use Rattle.trace_text.specs.Words.{byte}
use Rattle.import_forms.specs.Tokens.{Token, front_token, from_token, is_gap, split_at_last}

-- a decimal digit, or the point in a time
abbrev pub is_figure : ℕ → Bool
is_figure x = (nat_le (byte (codes "0")) x && nat_le x (byte (codes "9"))) || (x == byte (codes "."))

-- the figures that stand first
abbrev pub front_figures : List ℕ → List ℕ
front_figures [] = []
front_figures (x ∷ xs) = if is_figure x then x ∷ front_figures xs else []

-- the bytes from the first that is no figure on
abbrev pub past_figures : List ℕ → List ℕ
past_figures [] = []
past_figures (x ∷ xs) = if is_figure x then past_figures xs else x ∷ xs

-- ---- the thread

-- what stands behind the first `>`
abbrev pub past_sign : List ℕ → Option (List ℕ)
past_sign [] = None
past_sign (x ∷ xs) = if x == byte (codes ">") then Some xs else past_sign xs

-- what stands behind a number that ends here: behind a name, `<NAME>`, or from a gap on
abbrev pub past_name : List ℕ → Option (List ℕ)
past_name [] = Some []
past_name (x ∷ xs) = if x == byte (codes "<") then past_sign xs else if is_gap x then Some (x ∷ xs) else None

-- the number of a thread, which is at most 2^22, and what stands behind it
unfoldable pub front_thread : List ℕ → Option (ℕ × List ℕ)
front_thread bytes = do
  number ← number_of (front_figures (from_token bytes))
  rest ← past_name (past_figures (from_token bytes))
  if nat_lt (2 ^ 22) number then None else Some (number, rest)

-- ---- before the call

-- a byte of a time, a number or an address
abbrev pub is_mark : ℕ → Bool
is_mark x = is_figure x || (nat_le (byte (codes "a")) x && nat_le x (byte (codes "f"))) || (x == byte (codes ":")) || (x == byte (codes "?"))

abbrev pub are_marks : List ℕ → Bool
are_marks [] = true
are_marks (x ∷ xs) = is_mark x && are_marks xs

-- a time, a number, an address, or the `+` before a time since the last line: no call has such a name
abbrev pub is_stamp : Token → Bool
is_stamp token = are_marks token || bytes_eq token (codes "+")

-- what stands behind the first token, where that is such
unfoldable pub past_stamp : List ℕ → Option (List ℕ)
past_stamp bytes = do
  first ← front_token bytes
  if is_stamp first.0 then Some first.1 else None

-- what stands behind the first of them, so many at most
abbrev pub past_stamps : ℕ → List ℕ → List ℕ
past_stamps zero bytes = bytes
past_stamps (suc n) bytes = unwrap_or (option_map (past_stamps n) (past_stamp bytes)) bytes

-- ---- behind the call

-- how long a call took, `<SECONDS>`
abbrev pub is_time : List ℕ → Bool
is_time [] = false
is_time (x ∷ xs) = if x == byte (codes "<") then bytes_eq (past_figures xs) (codes ">") else false

abbrev pub untimed : List ℕ → Option (List ℕ × List ℕ) → List ℕ
untimed text None = text
untimed text (Some parts) = if is_time parts.1 then parts.0 else text

-- without the last word, where that says how long the call took
abbrev pub without_time : List ℕ → List ℕ
without_time text = untimed text (split_at_last (byte (codes " ")) text)

-- The text of a call. At most five tokens stand before it: a time, `+` and the time since the last line, the call's number, and the
-- address behind it.
abbrev pub call_text : List ℕ → List ℕ
call_text bytes = without_time (past_stamps 5 bytes)
