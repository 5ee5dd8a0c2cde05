-- Texts by their numbers
use Rattle.std.proofs.Common.{◌≡◌, ℕ, zero, suc, ◌<◌, ◌≤◌, List, [], ◌∷◌, Vec, arith, ap, get_or, length, refl, sym}
use Rattle.std.specs.declared.alloc.Global.{Global}
use Rattle.trace.specs.Numbered.{text_at, texts_of}

pub text_of_number : (texts : List (Vec ℕ Global)) (n : ℕ) (text : Vec ℕ Global) → n < length texts → text ≡ get_or texts n text
    → text.items ≡ text_at n (texts_of texts)
text_of_number [] n text h is = absurd (omega (arith, h))
text_of_number (t ∷ ts) zero text h is = ap (λ (v : Vec ℕ Global). v.items) is
text_of_number (t ∷ ts) (suc n) text h is = text_of_number ts n text (omega (arith, h)) is

pub text_of_none : (texts : List (Vec ℕ Global)) (n : ℕ) → length texts ≤ n → [] ≡ text_at n (texts_of texts)
text_of_none [] n h = refl
text_of_none (t ∷ ts) zero h = absurd (omega (arith, h))
text_of_none (t ∷ ts) (suc n) h = text_of_none ts n (omega (arith, h))
