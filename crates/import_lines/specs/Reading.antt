-- The lines of a text that are heard as they are read.
use Rattle.std.specs.Prelude.{◌≡◌, ◌≤◌, ◌⊎◌, ℕ, List, [], ◌∷◌, ◌++◌, length, take}
use Rattle.trace_io.specs.Lines.{lines_of}
use Rattle.trace_io.specs.Source.{Reads, Stream}

-- none of the bytes, or those up to a newline
abbrev pub IsBreak : List ℕ → ℕ → Type 0
IsBreak text n = (n ≡ 0) ⊎ ((n ≤ length text) × (front : List ℕ) × (take n text ≡ front ++ 10 ∷ []))

-- some of these lines were heard, and the rest wasn't
pub record HearsLines {A : Type 0} (has_heard : A → List (List ℕ) → Type 0) (old new : A) (all rest : List (List ℕ)) : Type 0 where
  pub lines : List (List ℕ)
  pub heard : (before : List (List ℕ)) → has_heard old before → has_heard new (before ++ lines)
  pub same : all ≡ lines ++ rest

-- some lines were heard, and the lines of what is read are those and the lines of what is held and what comes
pub record HearsInput {A : Type 0} (has_heard : A → List (List ℕ) → Type 0) (old new : A) (before after : Stream) (held : List ℕ) : Type 0 where
  pub lines : List (List ℕ)
  pub heard : (first : List (List ℕ)) → has_heard old first → has_heard new (first ++ lines)
  pub read : Reads before after (λ xs ys. lines_of xs ≡ lines ++ lines_of (held ++ ys))

-- some lines were heard, and the lines of a text are those and the lines of what is held, whatever comes behind it
pub record HearsMore {A : Type 0} (has_heard : A → List (List ℕ) → Type 0) (old new : A) (text held : List ℕ) : Type 0 where
  pub lines : List (List ℕ)
  pub heard : (before : List (List ℕ)) → has_heard old before → has_heard new (before ++ lines)
  pub same : (later : List ℕ) → lines_of (text ++ later) ≡ lines ++ lines_of (held ++ later)
