-- A text that is read up to one of its lines
use Rattle.std.specs.Prelude.{◌≡◌, ◌⊎◌, ℕ, zero, suc, ◌==◌, ◌≤◌, List, [], ◌∷◌, ◌++◌, if◌then◌else◌}

-- how many newlines there are
abbrev pub newlines : List ℕ → ℕ
newlines [] = zero
newlines (x ∷ xs) = if x == 10 then suc (newlines xs) else newlines xs

-- this was read of the input, and is all of it, or has so many lines
pub record IsEnough (lines : ℕ) (text input unread : List ℕ) : Type 0 where
  pub is : input ≡ text ++ unread
  pub enough : (unread ≡ []) ⊎ (lines ≤ newlines text)
