-- Texts by their numbers
use Rattle.std.specs.Prelude.{ℕ, zero, suc, List, [], ◌∷◌, map, Vec}
use Rattle.std.specs.declared.alloc.Global.{Global}

-- texts as they lie in memory
abbrev pub texts_of : List (Vec ℕ Global) → List (List ℕ)
texts_of texts = map (λ text. text.items) texts

-- the text with this number, counted from 0, and none behind the last
abbrev pub text_at : ℕ → List (List ℕ) → List ℕ
text_at n [] = []
text_at zero (text ∷ texts) = text
text_at (suc n) (text ∷ texts) = text_at n texts
