-- The words of a line: its bytes up to spaces.
use Rattle.std.specs.Prelude.{ℕ, Bool, false, not, List, [], ◌∷◌, Option, None, Some, if◌then◌else◌}
use Rattle.std.specs.Prelude.{◌==◌, codes}
use Rattle.trace_io.specs.Lines.{onto}

-- a word, as its bytes
abbrev pub Word : Type 0
Word = List ℕ

-- the byte of a character, as `byte (codes "a")`
abbrev pub byte : List ℕ → ℕ
byte [] = 0
byte (c ∷ cs) = c

-- the bytes begin with a byte of a word
abbrev pub begins_word : List ℕ → Bool
begins_word [] = false
begins_word (x ∷ xs) = not (x == byte (codes " "))

-- the bytes between spaces, as words; a line of spaces has none
abbrev pub words_of : List ℕ → List Word
words_of [] = []
words_of (x ∷ xs) = if x == byte (codes " ") then words_of xs
    else if begins_word xs then onto x (words_of xs) else (x ∷ []) ∷ words_of xs

-- the first word, and those after it
abbrev pub front_word : List Word → Option (Word × List Word)
front_word [] = None
front_word (w ∷ ws) = Some (w, ws)
