-- The lines of a trace, acted on one after another.
use Rattle.std.specs.Prelude.{◌≡◌, ℕ, ◌≤◌, List, [], ◌∷◌, ◌++◌, length}
use Rattle.trace.specs.Stage.{Stage, Acts}

-- the lines, none of them too long, are acted on in order, and give the text
abbrev pub Runs : Stage → List (List ℕ) → Stage → List ℕ → Type 0
Runs old [] new text = (new ≡ old) × (text ≡ [])
Runs old (l ∷ ls) new text = (mid : Stage) × (first : List ℕ) × (rest : List ℕ) × (length l ≤ 256)
    × Acts old l mid first × Runs mid ls new rest × (text ≡ first ++ rest)
