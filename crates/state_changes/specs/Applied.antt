-- A text with changes applied to it
use Rattle.std.specs.Prelude.{◌≡◌, ℕ, ◌<◌, ◌≤◌, List, [], ◌∷◌, ◌++◌, take, drop, length}
use Rattle.state_changes.specs.declared.part.DiffOp.{DiffOp}
use Rattle.state_changes.specs.declared.part.DiffOp.TheVariants.{Keep, Skip, Add}

-- the parts, from front to back, and the bytes that are added
pub record Differs : Type 0 where
  pub parts : List DiffOp
  pub added : List ℕ

-- By each part so many bytes of the text stay, or go, or the next of those that are added come before them. What is
-- left behind the parts stays.
abbrev pub applied : List DiffOp → List ℕ → List ℕ → List ℕ
applied [] added text = text
applied (Keep n ∷ parts) added text = take n text ++ applied parts added (drop n text)
applied (Skip n ∷ parts) added text = applied parts added (drop n text)
applied (Add n ∷ parts) added text = take n added ++ applied parts (drop n added) text

-- ---- a part

-- how many bytes of the text it passes
abbrev pub taken : DiffOp → ℕ
taken (Keep n) = n
taken (Skip n) = n
taken (Add n) = 0

-- how many of these stay
abbrev pub kept : DiffOp → ℕ
kept (Keep n) = n
kept (Skip n) = 0
kept (Add n) = 0

-- how many bytes it makes
abbrev pub given : DiffOp → ℕ
given (Keep n) = n
given (Skip n) = 0
given (Add n) = n

-- and how many of these are added
abbrev pub fresh : DiffOp → ℕ
fresh (Keep n) = 0
fresh (Skip n) = 0
fresh (Add n) = n

-- it can begin what makes of the old text the new one, and passes some bytes
abbrev pub IsNext : DiffOp → List ℕ → List ℕ → Type 0
IsNext (Keep n) old new = (0 < n) × (n ≤ length old) × (n ≤ length new) × (take n old ≡ take n new)
IsNext (Skip n) old new = (0 < n) × (n ≤ length old)
IsNext (Add n) old new = (0 < n) × (n ≤ length new)
