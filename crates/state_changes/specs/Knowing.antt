-- What the text of a state says of a page, and since when
use Rattle.std.specs.Prelude.{ℕ, suc, ◌-◌, Bool, false, ◌&&◌, ◌||◌, List, [], ◌∷◌, ◌++◌, Option, None, Some, codes, decimal, nat_le, nat_lt, ◌==◌, if◌then◌else◌, bytes_eq, max, eqb}
use Rattle.std.specs.List.{flat_map, list_any, starts_with}
use Rattle.trace_io.specs.Lines.{lines_of}
use Rattle.trace_text.specs.Number.{number_of}
use Rattle.trace_text.specs.Words.{Word, words_of}

-- ---- which pages a line names

-- what stands before the first `-`, and what stands behind it
abbrev pub before_dash : Word → Word
before_dash [] = []
before_dash (x ∷ xs) = if x == 45 then [] else x ∷ before_dash xs

abbrev pub behind_dash : Word → Word
behind_dash [] = []
behind_dash (x ∷ xs) = if x == 45 then xs else behind_dash xs

-- the bytes from one address up to another, or those of the page at an address
abbrev pub is_within : Option ℕ → Option ℕ → ℕ → Bool
is_within (Some first) (Some end) addr = nat_le first addr && nat_lt addr end
is_within (Some first) None addr = nat_le first addr && nat_lt (addr - first) 4096
is_within None end addr = false

-- a word `START` or `START-END` has the address
abbrev pub word_has : ℕ → Word → Bool
word_has addr word = is_within (number_of (before_dash word)) (number_of (behind_dash word)) addr

-- the first word that begins with 0x has it: a line of a state's text names its pages there
abbrev pub words_name : ℕ → List Word → Bool
words_name addr [] = false
words_name addr (w ∷ ws) = if starts_with eqb w (codes "0x") then word_has addr w else words_name addr ws

-- ---- which frame

-- a number, if there is one
abbrev pub listed : Option ℕ → List ℕ
listed None = []
listed (Some n) = n ∷ []

abbrev pub number_in_front : List Word → Option ℕ
number_in_front [] = None
number_in_front (w ∷ ws) = number_of w

-- the number behind the first word `frame`
abbrev pub frame_in : List Word → Option ℕ
frame_in [] = None
frame_in (w ∷ ws) = if bytes_eq w (codes "frame") then number_in_front ws else frame_in ws

-- the frame that a line names beside the page
abbrev pub frame_beside : ℕ → List ℕ → List ℕ
frame_beside addr line = if words_name addr (words_of line) then listed (frame_in (words_of line)) else []

-- those of all lines
abbrev pub frames_of : ℕ → List (List ℕ) → List ℕ
frames_of addr lines = flat_map (frame_beside addr) lines

abbrev pub is_among : Option ℕ → List ℕ → Bool
is_among None frames = false
is_among (Some frame) frames = list_any (λ f. f == frame) frames

-- A line has to do with the page: it names it, or one of its frames.
abbrev pub concerns : ℕ → List ℕ → List ℕ → Bool
concerns addr frames line = words_name addr (words_of line) || is_among (frame_in (words_of line)) frames

-- ---- since when

-- the number of the last of these texts that has the line, counted from this one on, or 0
abbrev pub last_with : ℕ → List ℕ → List (List ℕ) → ℕ
last_with n line [] = 0
last_with n line (t ∷ ts) = max (if list_any (bytes_eq line) (lines_of t) then n else 0) (last_with (suc n) line ts)

-- the last line of the trace whose changes have it with a plus
abbrev pub came_at : List ℕ → List (List ℕ) → ℕ
came_at line changes = last_with 1 (codes "+ " ++ line) changes

-- ---- all

abbrev pub known_line : ℕ → List ℕ → List (List ℕ) → List ℕ → List ℕ
known_line addr frames changes line = if concerns addr frames line
    then decimal (came_at line changes) ++ codes ": " ++ line ++ codes "\n" else []

-- each line of the state's text that has to do with the page, behind the number of the line at which it came
abbrev pub known_text : ℕ → List (List ℕ) → List ℕ → List ℕ
known_text addr changes state = flat_map (known_line addr (frames_of addr (lines_of state)) changes) (lines_of state)
