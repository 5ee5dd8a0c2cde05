-- Which thread a line of strace is about, and what it says of it.
use Rattle.std.specs.Prelude.{ℕ, ◌-◌, Bool, ◌||◌, List, Option, None, Some, if◌then◌else◌, codes, length, take, drop, unwrap_or}
use Rattle.std.specs.Str.{bytes_eq}
use Rattle.trace_text.specs.Request.{◌>>=◌}
use Rattle.import_forms.specs.Said.{behind}
use Rattle.import_forms.specs.Stamps.{call_text, front_thread}
use Rattle.import_forms.specs.Tokens.{Token, begins_by, from_token, front_count, front_token, stripped}
use Rattle.import_forms.specs.declared.speech.Speech.{Speech}

-- a thread's number, and what is said of it
abbrev pub Spoken : Type 0
Spoken = ℕ × List ℕ

-- what the code keeps of a line, as a value of bytes
abbrev pub spoken : Speech → Spoken
spoken s = (s.thread, s.text.now)

-- `PID TEXT` or `[pid PID] TEXT`; another number in brackets is a call's, or an address
unfoldable pub numbered : List ℕ → Option Spoken
numbered line = do
  first ← front_token line
  if bytes_eq first.0 (codes "pid") then front_thread first.1
      else if begins_by (codes "[") line then None else front_thread line

-- the thread, and the text of the call
abbrev pub speech_in : Spoken → Spoken
speech_in s = (s.0, call_text s.1)

-- a line that names no thread is about thread 0
abbrev pub speech_of : List ℕ → Spoken
speech_of line = speech_in (unwrap_or (numbered line) (0, line))

abbrev pub ends_message : List ℕ → Bool
ends_message line =
    let back = drop (length line - 8) line in
    bytes_eq back (codes "attached") || bytes_eq back (codes "detached")

unfoldable pub message_of : List ℕ → Option (List ℕ × ℕ)
message_of line = do
  rest ← behind (codes "strace: Process ") line
  number ← front_count rest
  Some (take (length line - length rest - 16) line, number.0)

-- what stands before strace's own message `strace: Process PID attached`, or `detached`, where a line ends with one, and its number
abbrev pub broken_of : List ℕ → Option (List ℕ × ℕ)
broken_of line = if ends_message line then message_of line else None

-- what stands before `<unfinished ...>` at the end
abbrev pub begun_of : List ℕ → Option (List ℕ)
begun_of text = if bytes_eq (drop (length text - 16) text) (codes "<unfinished ...>")
    then Some (take (length text - 16) text) else None

-- `<... NAME resumed>REST`: the call's name, and the rest
unfoldable pub returned_of : List ℕ → Option (Token × List ℕ)
returned_of text = do
  first ← front_token text
  name ← front_token first.1
  rest ← stripped (codes "resumed>") (from_token name.1)
  if bytes_eq first.0 (codes "<...") then Some (name.0, rest) else None
