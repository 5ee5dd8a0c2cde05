-- Texts of numbers, one after another
use Rattle.std.specs.Prelude.{ℕ, zero, suc, List, [], ◌++◌}

-- those of the numbers below this one
unfoldable pub first_texts : (ℕ → List ℕ) → ℕ → List ℕ
first_texts text zero = []
first_texts text (suc n) = first_texts text n ++ text n
