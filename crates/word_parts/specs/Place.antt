-- Where an error is, and what it is.
use Rattle.std.specs.Prelude.{ℕ, List, [], ◌++◌, Option, None, Some, codes, decimal}

-- a line, and where it is known a column
abbrev pub spot_text : Option ℕ → Option ℕ → List ℕ
spot_text None column = []
spot_text (Some line) None = codes ":" ++ decimal line
spot_text (Some line) (Some column) = codes ":" ++ decimal line ++ codes ":" ++ decimal column

-- the text's name, the place in it, and what is wrong there
abbrev pub place_text : List ℕ → Option ℕ → Option ℕ → List ℕ → List ℕ
place_text name line column what = codes "radixvm: " ++ name ++ spot_text line column ++ codes ": " ++ what ++ codes "\n"
