-- The lines by which one text differs from another
use Rattle.std.specs.Prelude.{◌≡◌, ◌≢◌, ℕ, List, [], ◌∷◌, ◌++◌, Some, codes, slice_get}
use Rattle.std.specs.List.{flat_map}
use Rattle.trace_io.specs.Lines.{lines_of}

-- a line that goes, or one that comes
pub data LineMark : Type 0 where
  Goes : List ℕ → LineMark
  Comes : List ℕ → LineMark

-- Some lines stay, then the first of these goes or comes, and so on. Behind the last of them all stay. A line that is the next of both texts
-- stays: none that goes is the next that the new text has there, and none that comes is the next of the old one.
abbrev pub LinesDiffer : List LineMark → List (List ℕ) → List (List ℕ) → Type 0
LinesDiffer [] old new = old ≡ new
LinesDiffer (Goes line ∷ marks) old new = (stay : List (List ℕ)) × (rest : List (List ℕ)) × (more : List (List ℕ))
    × (old ≡ stay ++ line ∷ rest) × (new ≡ stay ++ more) × (slice_get more 0 ≢ Some line) × LinesDiffer marks rest more
LinesDiffer (Comes line ∷ marks) old new = (stay : List (List ℕ)) × (rest : List (List ℕ)) × (more : List (List ℕ))
    × (old ≡ stay ++ rest) × (new ≡ stay ++ line ∷ more) × (slice_get rest 0 ≢ Some line) × LinesDiffer marks rest more

-- `- LINE` and `+ LINE`
abbrev pub mark_text : LineMark → List ℕ
mark_text (Goes line) = codes "- " ++ line ++ codes "\n"
mark_text (Comes line) = codes "+ " ++ line ++ codes "\n"

-- The text says which lines go and which come, in their order, so that the lines of the one become those of the other. It is
-- empty where both are the same.
pub record SaysDifference (text old new : List ℕ) : Type 0 where
  pub marks : List LineMark
  pub differ : LinesDiffer marks (lines_of old) (lines_of new)
  pub says : text ≡ flat_map mark_text marks
  pub same : old ≡ new → text ≡ []

-- ---- on the way

-- the first line of the one text isn't that of the other
abbrev pub IsOther : List ℕ → List ℕ → Type 0
IsOther text other = (line : List ℕ) (more : List (List ℕ)) → lines_of text ≡ line ∷ more → slice_get (lines_of other) 0 ≢ Some line

-- The first lines of both were passed: where marks say how the rest differ, these before them say how all do.
pub record PassesLines (said old rest new more : List ℕ) : Type 0 where
  pub marks : List LineMark
  pub says : said ≡ flat_map mark_text marks
  pub on : (later : List LineMark) → LinesDiffer later (lines_of rest) (lines_of more)
      → LinesDiffer (marks ++ later) (lines_of old) (lines_of new)

-- the same, and that was put behind what there was
abbrev pub PassesOn : List ℕ → List ℕ → List ℕ → List ℕ → List ℕ → List ℕ → Type 0
PassesOn before after old rest new more = (said : List ℕ) × (after ≡ before ++ said) × PassesLines said old rest new more
