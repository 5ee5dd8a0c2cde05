-- Names of a trace's files, as comments of the trace tell them.
use Rattle.std.specs.Prelude.{ℕ, Bool, false, List, [], ◌∷◌, Option, None, Some, if◌then◌else◌, ◌==◌, codes, decimal, drop, length, take}
use Rattle.std.specs.Str.{bytes_eq}
use Rattle.trace_io.specs.Lines.{lines_of}
use Rattle.trace_text.specs.Line.{line_of}
use Rattle.trace_text.specs.declared.line.Line.{Line}
use Rattle.trace_text.specs.declared.line.Line.TheVariants.{File}

-- what stands in a line behind these bytes: nothing where it doesn't begin with them
abbrev pub behind : List ℕ → List ℕ → List ℕ
behind front line = if bytes_eq (take (length front) line) front then drop (length front) line else []

-- a comment that names the file of this number: `# file N NAME`
abbrev pub named : ℕ → List ℕ → List ℕ
named number line = behind (codes " ") (behind (decimal number) (behind (codes "# file ") line))

-- the line of this file
abbrev pub is_line_of : ℕ → Option Line → Bool
is_line_of number (Some (File other mode len seed)) = other == number
is_line_of number _ = false

-- of a file that these lines have, the name in the line right before the file's; this one stands before the first of them
abbrev pub name_from : ℕ → List ℕ → List (List ℕ) → List ℕ
name_from number before [] = []
name_from number before (l ∷ ls) = if is_line_of number (line_of l) then named number before else name_from number l ls

-- the name of a file, as the line right before its line in the text tells it; no bytes where that tells none
abbrev pub name_of : List ℕ → ℕ → List ℕ
name_of text number = name_from number [] (lines_of text)
