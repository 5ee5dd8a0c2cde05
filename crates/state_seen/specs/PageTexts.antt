-- The text of what pages have, page by page
use Rattle.std.specs.Prelude.{ℕ, zero, suc, List, [], ◌++◌, Option, None, Some}
use Rattle.state_seen.specs.Lists.{page_limit}

-- of the numbers below one
unfoldable pub texts_below : (ℕ → List ℕ) → ℕ → List ℕ
texts_below text zero = []
texts_below text (suc n) = texts_below text n ++ text n

-- a page that has nothing has no line
abbrev pub line_if : {V : Type 0} → (ℕ → V → List ℕ) → ℕ → Option V → List ℕ
line_if line p None = []
line_if line p (Some v) = line p v

-- of all pages, the lowest first
abbrev pub pages_text : {V : Type 0} → (ℕ → V → List ℕ) → (ℕ → Option V) → List ℕ
pages_text line has = texts_below (λ p. line_if line p (has p)) page_limit
