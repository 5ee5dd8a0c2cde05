-- Tokens that stand before a call.
use Rattle.std.proofs.Common.{◌≡◌, ℕ, zero, suc, ◌-◌, ◌<◌, List, None, Some, arith, refl}
use Rattle.import_forms.specs.Stamps.{past_stamp, past_stamps}

pub stamps_end : (n : ℕ) (rest : List ℕ) → past_stamp rest ≡ None → past_stamps n rest ≡ rest
stamps_end zero rest h = refl
stamps_end (suc n) rest h = rw h refl

pub stamps_more : (n : ℕ) (rest behind : List ℕ) → 0 < n → past_stamp rest ≡ Some behind → past_stamps (n - 1) behind ≡ past_stamps n rest
stamps_more zero rest behind p h = absurd (omega (arith, p))
stamps_more (suc n) rest behind p h = let e : suc n - 1 ≡ n = omega arith in rw (h, e) refl
