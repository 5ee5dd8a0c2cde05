-- The bits of a set of cores
use Rattle.std.proofs.Common.{◌≡◌, ◌≢◌, ℕ, ◌<◌, ◌≤◌, ◌^◌, ◌*◌, ◌%◌, true, false, ◌==◌, ◌||◌, ◌⊎◌, inl, inr, bit_or, arith, sym, ◌∙◌, ap, max, min, w64}
use Rattle.std.proofs.Math.Path.{fun_ext}
use Rattle.std.proofs.Math.Nat.{div-eq_of_lt, mod-eq_of_lt}
use Rattle.std.proofs.Math.Pow.{pow_mono, pow-lt}
use Rattle.std.specs.Int.{bit_at, bit_not, trailing_zeros}
use Rattle.std.proofs.lemmas.Nat.Bits.{bit_at_or, bit_at-lt, bit_at_set_same, bit_at_set_other, bit_at_clear_same, bit_at_clear_other}
use Rattle.std.proofs.lemmas.Nat.Bits.{bit_at_and, bit_at-trailing_zeros, bit_at-zero, same_from_bits}
use lib.Bits.{bit_and}
use Rattle.std.proofs.lemmas.Bool.{cases_lt}
use Rattle.std.proofs.lemmas.Bool.Decides.{nat_tests}
use Rattle.vm_base.specs.Functions.{put}
use Rattle.vm_base.specs.Cores.{members, either}
use Rattle.vm_base.proofs.Functions.{put_all}

either_max : (a b : ℕ) → a < 2 → b < 2 → (max a b == 1) ≡ (a == 1) || (b == 1)
either_max a b h g = grind (arith, nat_tests)

pub members-or : (a b : ℕ) → members (bit_or a b) ≡ either (members a) (members b)
members-or a b = fun_ext (λ k. ap (λ n. n == 1) (bit_at_or a b k) ∙ either_max _ _ (bit_at-lt a k) (bit_at-lt b k))

-- the bit of a core, as it is shifted
pub one_bit : (k : ℕ) → k < 64 → 1 * 2 ^ k % 2 ^ 64 ≡ 2 ^ k
one_bit k h = let less : 2 ^ k < 2 ^ 64 = pow-lt h in let same : 1 * 2 ^ k ≡ 2 ^ k = omega arith in rw same (mod-eq_of_lt less)

pub members-set : (s k : ℕ) → k < 64 → members (bit_or s (1 * 2 ^ k % 2 ^ 64)) ≡ put (members s) k true
members-set s k h = fun_ext (put_all (λ j b. members (bit_or s (1 * 2 ^ k % 2 ^ 64)) j ≡ b) (members s) k true
    (ap (λ n. n == 1) (bit_at_set_same w64 s k h)) (λ j ne. ap (λ n. n == 1) (bit_at_set_other w64 s k h j ne)))

high_bit : (s j : ℕ) → s < 2 ^ 64 → 64 ≤ j → bit_at s j ≡ 0
high_bit s j h g =
    let wide : 2 ^ 64 ≤ 2 ^ j = pow_mono g in
    let less : s < 2 ^ j = omega arith in
    ap (λ n. n % 2) (div-eq_of_lt less)

min_zero : (a b : ℕ) → a ≡ 0 → min a b ≡ 0
min_zero a b e = omega arith

cleared_bit : (s k j : ℕ) → s < 2 ^ 64 → k < 64 → j ≢ k → bit_at (bit_and s (bit_not w64 (1 * 2 ^ k % 2 ^ 64))) j ≡ bit_at s j
cleared_bit s k j h g ne = by (cases_lt j 64)
  where
    by : (j < 64) ⊎ (64 ≤ j) → bit_at (bit_and s (bit_not w64 (1 * 2 ^ k % 2 ^ 64))) j ≡ bit_at s j
    by (inl lt) = bit_at_clear_other w64 s k g j lt ne
    by (inr le) = bit_at_and s (bit_not w64 (1 * 2 ^ k % 2 ^ 64)) j ∙ (min_zero _ _ (high_bit s j h le) ∙ sym (high_bit s j h le))

pub members-clear : (s k : ℕ) → s < 2 ^ 64 → k < 64 → members (bit_and s (bit_not w64 (1 * 2 ^ k % 2 ^ 64))) ≡ put (members s) k false
members-clear s k l h = fun_ext (put_all (λ j b. members (bit_and s (bit_not w64 (1 * 2 ^ k % 2 ^ 64))) j ≡ b) (members s) k false
    (ap (λ n. n == 1) (bit_at_clear_same w64 s k h)) (λ j ne. ap (λ n. n == 1) (cleared_bit s k j l h ne)))

-- the least member is the place of the lowest bit
pub members-least : (s : ℕ) → 0 < s → s < 2 ^ 64 → members s (trailing_zeros w64 s) ≡ true
members-least s h l = ap (λ n. n == 1) ((bit_at-trailing_zeros w64 s h l).1)

pub members-below : (s : ℕ) → 0 < s → s < 2 ^ 64 → (k : ℕ) → k < trailing_zeros w64 s → members s k ≡ false
members-below s h l k lt = ap (λ n. n == 1) ((bit_at-trailing_zeros w64 s h l).2 k lt)

-- the set without a core
pub members-empty : (k : ℕ) → members 0 k ≡ false
members-empty k = ap (λ n. n == 1) (bit_at-zero k)

bit_same : (a b : ℕ) → a < 2 → b < 2 → (a == 1) ≡ (b == 1) → a ≡ b
bit_same a b h g e = grind (arith, nat_tests)

-- sets with the same members are one set
pub members-same : (s t : ℕ) → ((k : ℕ) → members s k ≡ members t k) → s ≡ t
members-same s t h = same_from_bits s t (λ k. bit_same _ _ (bit_at-lt s k) (bit_at-lt t k) (h k))

-- a set without members is the empty one
pub members-none : (s : ℕ) → ((k : ℕ) → members s k ≡ false) → s ≡ 0
members-none s h = members-same s 0 (λ k. h k ∙ sym (members-empty k))
