-- How many numbers below the next one are in a set
use Rattle.std.proofs.Common.{◌≡◌, ℕ, ◌+◌, Bool, cond, refl, ap, ◌∙◌, add-one}
use Rattle.frames.specs.Bits.{count_below}

pub count_none : (s : ℕ → Bool) → count_below s 0 ≡ 0
unfolding count_below
count_none s = refl

count_next : (s : ℕ → Bool) (n : ℕ) → count_below s (n + 1) ≡ cond (s n) 1 0 + count_below s n
unfolding count_below
count_next s n = rw add-one refl

-- one number more is looked at
pub count_at : (s : ℕ → Bool) (n : ℕ) (b : Bool) → s n ≡ b → count_below s (n + 1) ≡ cond b 1 0 + count_below s n
count_at s n b e = count_next s n ∙ ap (λ (x : Bool). cond x 1 0 + count_below s n) e
