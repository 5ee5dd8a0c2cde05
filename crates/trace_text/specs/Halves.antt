-- What stands before a sign and behind it.
use Rattle.std.specs.Prelude.{◌≡◌, ℕ, Bool, true, not, List, ◌++◌, ◌==◌, codes}
use Rattle.std.specs.List.{list_all}
use Rattle.trace_text.specs.Words.{byte}

-- no sign is among the bytes
abbrev pub are_clear : List ℕ → Bool
are_clear bytes = list_all (λ b. not (b == byte (codes "="))) bytes

-- the bytes have a sign between spaces, and none behind it
pub record AreHalves (bytes front behind : List ℕ) : Type 0 where
  pub is : bytes ≡ front ++ (codes " = " ++ behind)
  pub clear : are_clear behind ≡ true
