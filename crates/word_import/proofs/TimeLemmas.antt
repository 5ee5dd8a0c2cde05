-- Words that stand before a call.
use Rattle.std.proofs.Common.{◌≡◌, ℕ, zero, suc, ◌-◌, ◌<◌, List, None, Some, true, false, arith, refl}
use Rattle.import_forms.specs.Tokens.{Token, front_token}
use Rattle.word_import.specs.Times.{goes_before, moment_named, moment_within}

-- no word is left
pub moments_end : (n : ℕ) (rest : List ℕ) → front_token rest ≡ None → moment_within n rest ≡ None
moments_end zero rest h = refl
moments_end (suc n) rest h = rw h refl

-- the first word is a time
pub moment_here : (n : ℕ) (rest : List ℕ) (t : Token × List ℕ) (m : ℕ) → 0 < n → front_token rest ≡ Some t → moment_named t.0 ≡ Some m
    → moment_within n rest ≡ Some m
moment_here zero rest t m p h e = absurd (omega (arith, p))
moment_here (suc n) rest t m p h e = rw (h, e) refl

-- the first word is none, and stands before none
pub moment_none : (n : ℕ) (rest : List ℕ) (t : Token × List ℕ) → 0 < n → front_token rest ≡ Some t → moment_named t.0 ≡ None → goes_before t.0 ≡ false
    → moment_within n rest ≡ None
moment_none zero rest t p h e g = absurd (omega (arith, p))
moment_none (suc n) rest t p h e g = rw (h, e, g) refl

-- the first word may stand before one
pub moment_later : (n : ℕ) (rest : List ℕ) (t : Token × List ℕ) → 0 < n → front_token rest ≡ Some t → moment_named t.0 ≡ None → goes_before t.0 ≡ true
    → moment_within (n - 1) t.1 ≡ moment_within n rest
moment_later zero rest t p h e g = absurd (omega (arith, p))
moment_later (suc n) rest t p h e g = let less : suc n - 1 ≡ n = omega arith in rw (h, e, g, less) refl
