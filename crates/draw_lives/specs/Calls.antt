-- The calls of a history, which `audit --overlapping` reads, or of its answer
use Rattle.std.specs.Prelude.{ℕ, suc, Bool, ◌||◌, ◌&&◌, List, [], ◌∷◌, ◌++◌, Option, None, Some, codes, if◌then◌else◌, ◌==◌, bytes_eq}
use Rattle.std.specs.List.{flat_map, list_any}
use Rattle.std.specs.Option.{is_some}
use Rattle.trace_io.specs.Lines.{lines_of}
use Rattle.trace_text.specs.Line.{core_number}
use Rattle.trace_text.specs.Number.{number_of}
use Rattle.trace_text.specs.Request.{◌>>=◌, front_number}
use Rattle.trace_text.specs.Words.{Word, byte, front_word, words_of}

-- a call: the number of its line, its core, its times, whether it changes mappings, and what it asked for with its reply, in words
pub record CallView : Type 0 where
  pub line : ℕ
  pub core : ℕ
  pub begin : ℕ
  pub end : ℕ
  pub is_change : Bool
  pub words : List Word

-- the core of a word `cC!`
abbrev pub core_in : Word → Option ℕ
core_in [] = None
core_in (c ∷ []) = None
core_in (c ∷ d ∷ []) = None
core_in (c ∷ d ∷ x ∷ []) = if (c == byte (codes "c")) && (x == byte (codes "!")) then core_number (d ∷ []) else None
core_in (c ∷ d ∷ e ∷ x ∷ []) = if (c == byte (codes "c")) && (x == byte (codes "!")) then core_number (d ∷ e ∷ []) else None
core_in (c ∷ d ∷ e ∷ f ∷ g ∷ more) = None

-- mmap, munmap and mprotect change mappings
abbrev pub is_change : Word → Bool
is_change word = bytes_eq word (codes "mmap") || bytes_eq word (codes "munmap") || bytes_eq word (codes "mprotect")

-- `BEGIN END cC! REQ = REPLY`
unfoldable pub call_in : ℕ → List Word → Option CallView
call_in line words = do
  begin ← front_number words
  end ← front_number begin.1
  named ← front_word end.1
  core ← core_in named.0
  kind ← front_word named.1
  Some (record { line = line; core = core; begin = begin.0; end = end.0; is_change = is_change kind.0; words = named.1 })

-- what stands before the first `:`, and what stands behind it
abbrev pub before_colon : List ℕ → List ℕ
before_colon [] = []
before_colon (x ∷ xs) = if x == 58 then [] else x ∷ before_colon xs

abbrev pub behind_colon : List ℕ → List ℕ
behind_colon [] = []
behind_colon (x ∷ xs) = if x == 58 then xs else behind_colon xs

-- `N: BEGIN END cC! REQ = REPLY`, as audit shows the line N
unfoldable pub listed_in : List ℕ → Option CallView
listed_in line = do
  number ← number_of (before_colon line)
  call_in number (words_of (behind_colon line))

abbrev pub optional : Option CallView → List CallView
optional None = []
optional (Some c) = c ∷ []

-- those of all lines, of which the first has this number
abbrev pub own_from : ℕ → List (List ℕ) → List CallView
own_from n [] = []
own_from n (l ∷ ls) = optional (call_in n (words_of l)) ++ own_from (suc n) ls

abbrev pub listed_calls : List (List ℕ) → List CallView
listed_calls lines = flat_map (λ l. optional (listed_in l)) lines

-- the calls of a history; of audit's answer alone those that it shows
abbrev pub calls_of : List CallView → List CallView → List CallView
calls_of [] listed = listed
calls_of (c ∷ cs) listed = c ∷ cs

-- a line tells a call, and a text has one
abbrev pub tells_call : List ℕ → Bool
tells_call line = is_some (call_in 0 (words_of line)) || is_some (listed_in line)

abbrev pub has_calls : List ℕ → Bool
has_calls text = list_any tells_call (lines_of text)
