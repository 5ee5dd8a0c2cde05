-- What a line of a trace says.
use Rattle.std.specs.Prelude.{ℕ, ◌+◌, ◌-◌, ◌*◌, ◌%◌, Bool, false, ◌&&◌, List, [], ◌∷◌, Option, None, Some}
use Rattle.std.specs.Prelude.{if◌then◌else◌, ◌==◌, nat_lt, nat_le, codes, map}
use Rattle.std.specs.Str.{bytes_eq}
use Rattle.std.specs.List.{list_all, range_with_len}
use Rattle.std.specs.Io.BufRead.{ends_with_byte, strip_last}
use Rattle.vm_base.specs.declared.rights.Mode.{Mode}
use Rattle.vm_base.specs.declared.rights.Mode.TheVariants.{R, W, RW}
use Rattle.trace_text.specs.Words.{Word, byte, words_of, front_word}
use Rattle.trace_text.specs.Request.{◌>>=◌, ended, front_byte, front_number, request_of}
use Rattle.trace_text.specs.Action.{action_of, page_alone}
use Rattle.trace_text.specs.declared.line.Line.{Line}
use Rattle.trace_text.specs.declared.line.Line.TheVariants.{Blank, Space, File, Act, Fold, Finish, Now}

-- each byte is printable ASCII, from the space to the tilde
abbrev pub are_printable : List ℕ → Bool
are_printable bytes = list_all (λ b. nat_le (byte (codes " ")) b && nat_le b (byte (codes "~"))) bytes

-- the first of the words is this one
abbrev pub begins_with : Word → List Word → Bool
begins_with word [] = false
begins_with word (name ∷ args) = bytes_eq name word

abbrev pub begins_with_vm : List Word → Bool
begins_with_vm words = begins_with (codes "vm") words

abbrev pub begins_with_file : List Word → Bool
begins_with_file words = begins_with (codes "file") words

-- CALLS, which is 4096 where left out
unfoldable pub limit_of : ℕ → ℕ → List Word → Option Line
limit_of cores frames [] = Some (Space cores frames 4096)
limit_of cores frames (w ∷ ws) = do
  calls ← front_number (w ∷ ws)
  ended calls.1 (Space cores frames calls.0)

unfoldable pub space_of : List Word → Option Line
space_of words = do
  cores ← front_number words
  frames ← front_number cores.1
  limit_of cores.0 frames.0 frames.1

abbrev pub mode_named : Word → Option Mode
mode_named word = if bytes_eq word (codes "r") then Some R
    else if bytes_eq word (codes "w") then Some W
    else if bytes_eq word (codes "rw") then Some RW else None

-- LEN and SEED, as the last words
unfoldable pub contents_of : ℕ → Mode → List Word → Option Line
contents_of number mode words = do
  len ← front_number words
  seed ← front_byte len.1
  ended seed.1 (File number mode len.0 seed.0)

-- the bytes of the file: byte i is (SEED + i) mod 256
abbrev pub seeded : ℕ → ℕ → List ℕ
seeded len seed = map (λ i. (seed + i) % 256) (range_with_len 0 len)

unfoldable pub file_line_of : List Word → Option Line
file_line_of words = do
  number ← front_number words
  second ← front_word number.1
  mode ← mode_named second.0
  contents_of number.0 mode second.1

-- a number of one digit, and of two without a leading zero
abbrev pub one_digit : ℕ → Option ℕ
one_digit d =
    if nat_le (byte (codes "0")) d && nat_le d (byte (codes "9")) then Some (d - byte (codes "0"))
    else None

-- 10 up to 63, with no zero in front
abbrev pub two_digits : ℕ → ℕ → Option ℕ
two_digits d e =
    let n = 10 * (d - byte (codes "0")) + (e - byte (codes "0")) in
    if nat_le (byte (codes "1")) d && nat_le d (byte (codes "9")) && nat_le (byte (codes "0")) e
    && nat_le e (byte (codes "9"))
    then (if nat_lt 63 n then None else Some n) else None

-- one digit, or two
abbrev pub core_number : List ℕ → Option ℕ
core_number [] = None
core_number (d ∷ []) = one_digit d
core_number (d ∷ e ∷ []) = two_digits d e
core_number (d ∷ e ∷ f ∷ fs) = None

-- the core of a word `cC`
abbrev pub core_of : Word → Option ℕ
core_of [] = None
core_of (c ∷ cs) = if c == byte (codes "c") then core_number cs else None

unfoldable pub act_of : ℕ → Word → List Word → Option Line
act_of core name args = do
  action ← action_of name args
  Some (Act core action)

-- what a core is told: an action, or to finish its call
unfoldable pub task_of : ℕ → List Word → Option Line
task_of core words = do
  name ← front_word words
  if bytes_eq name.0 (codes "finish") then ended name.1 (Finish core) else act_of core name.0 name.1

unfoldable pub now_of : Word → List Word → Option Line
now_of word args = do
  core ← core_of word
  request ← request_of args
  Some (Now core request)

-- a line of a core: `cC! REQ`, or `cC` and what it is told
unfoldable pub event_of : Word → List Word → Option Line
event_of name args =
    if ends_with_byte (byte (codes "!")) name then now_of (strip_last (byte (codes "!")) name) args
    else (core_of name >>= λ core. task_of core args)

unfoldable pub fold_of : List Word → Option Line
fold_of words = do
  page ← page_alone words
  Some (Fold page)

-- what the words of a line say; no word says nothing
unfoldable pub line_of_words : List Word → Option Line
line_of_words [] = Some Blank
line_of_words (name ∷ args) = if bytes_eq name (codes "vm") then space_of args
    else if bytes_eq name (codes "file") then file_line_of args
    else if bytes_eq name (codes "fold") then fold_of args else event_of name args

-- the first byte is a #
abbrev pub is_comment : List ℕ → Bool
is_comment [] = false
is_comment (b ∷ bs) = b == byte (codes "#")

-- what printable bytes say; a line that begins with # says nothing
abbrev pub line_of : List ℕ → Option Line
line_of [] = line_of_words (words_of [])
line_of (b ∷ bs) = if b == byte (codes "#") then Some Blank else line_of_words (words_of (b ∷ bs))
