-- What notes say as lines of a trace.
use Rattle.std.specs.Prelude.{ℕ, Bool, List, [], ◌∷◌, ◌++◌, Option, None, Some, if◌then◌else◌, ◌==◌, eqb, codes, option_map}
use Rattle.std.specs.Char.{is_ascii_digit}
use Rattle.std.specs.List.{flat_map, list_any, starts_with}
use Rattle.std.specs.Option.{is_some, unwrap_or}
use Rattle.trace_io.specs.Lines.{lines_of}
use Rattle.trace_text.specs.Words.{byte}

-- what stands behind digits, be it none, and a space
abbrev pub behind_digits : List ℕ → Option (List ℕ)
behind_digits [] = None
behind_digits (x ∷ xs) = if x == byte (codes " ") then Some xs else if is_ascii_digit x then behind_digits xs else None

-- what stands behind a ticket: a digit, more of them, and a space
abbrev pub behind_ticket : List ℕ → Option (List ℕ)
behind_ticket [] = None
behind_ticket (x ∷ xs) = if is_ascii_digit x then behind_digits xs else None

-- what stands before the first " = "
abbrev pub before_outcome : List ℕ → List ℕ
before_outcome [] = []
before_outcome (x ∷ xs) = if starts_with eqb (x ∷ xs) (codes " = ") then [] else x ∷ before_outcome xs

-- the event of a note
abbrev pub event_in : List ℕ → Option (List ℕ)
event_in line = option_map before_outcome (behind_ticket line)

abbrev pub is_note : List ℕ → Bool
is_note line = is_some (event_in line)

-- a note as a line of a trace is its event; any other line stays as it is
abbrev pub traced_line : List ℕ → List ℕ
traced_line line = unwrap_or (event_in line) line

abbrev pub ended_line : List ℕ → List ℕ
ended_line line = traced_line line ++ codes "\n"

-- the text of a trace: a text without notes as it is, or its lines, each with a newline
abbrev pub traced_text : List ℕ → List ℕ
traced_text text = if list_any is_note (lines_of text) then flat_map ended_line (lines_of text) else text
