-- How many numbers below n are in a set
use Rattle.std.proofs.Common.{◌≡◌, ◌≢◌, ℕ, zero, suc, ◌+◌, ◌<◌, ◌≤◌, Bool, true, false, cond, ◌⊎◌, inl, inr, arith, refl, sym, ◌∙◌, ap}
use Rattle.std.proofs.lemmas.Bool.{cases_lt}
use Rattle.vm_base.specs.Functions.{put}
use Rattle.vm_base.proofs.Functions.{put_same, put_other}
use Rattle.frames.specs.Bits.{count_below}

-- 1 for a member
abbrev pub as_number : Bool → ℕ
as_number b = cond b 1 0

-- one more number
count-suc : (s : ℕ → Bool) (n : ℕ) → count_below s (suc n) ≡ as_number (s n) + count_below s n
unfolding count_below
count-suc s n = refl

count-zero : (s : ℕ → Bool) → count_below s 0 ≡ 0
unfolding count_below
count-zero s = refl

cond-le : (b : Bool) → as_number b ≤ 1
cond-le true = omega arith
cond-le false = omega arith

pub count-le : (s : ℕ → Bool) (n : ℕ) → count_below s n ≤ n
count-le s zero = let e : count_below s 0 ≡ 0 = count-zero s in omega arith
count-le s (suc n) =
    let e : count_below s (suc n) ≡ as_number (s n) + count_below s n = count-suc s n in
    let h : count_below s n ≤ n = count-le s n in
    let b : as_number (s n) ≤ 1 = cond-le (s n) in
    omega arith

-- the empty set
pub count-none : (n : ℕ) → count_below (λ k. false) n ≡ 0
count-none zero = count-zero (λ k. false)
count-none (suc n) =
    let e : count_below (λ k. false) (suc n) ≡ 0 + count_below (λ k. false) n = count-suc (λ k. false) n in
    let h : count_below (λ k. false) n ≡ 0 = count-none n in
    omega (arith, e, h)

-- a change from n on
count-past : (s : ℕ → Bool) (k : ℕ) (b : Bool) (n : ℕ) → n ≤ k → count_below (put s k b) n ≡ count_below s n
count-past s k b zero le = count-zero (put s k b) ∙ sym (count-zero s)
count-past s k b (suc n) le =
    let other : n ≢ k = omega arith in
    let same : put s k b n ≡ s n = put_other s k b n other in
    let rest : count_below (put s k b) n ≡ count_below s n = count-past s k b n (omega arith) in
    count-suc (put s k b) n ∙ (ap (λ v. as_number v + count_below (put s k b) n) same ∙ (ap (λ m. as_number (s n) + m) rest ∙ sym (count-suc s n)))

-- a change of one member
pub count-put : (s : ℕ → Bool) (k : ℕ) (b : Bool) (n : ℕ) → k < n → count_below (put s k b) n + as_number (s k) ≡ count_below s n + as_number b
count-put s k b zero lt = absurd (omega arith)
count-put s k b (suc n) lt = by (cases_lt k n) (count-put s k b n)
  where
    grown : count_below s (suc n) ≡ as_number (s n) + count_below s n
    grown = count-suc s n

    put_grown : count_below (put s k b) (suc n) ≡ as_number (put s k b n) + count_below (put s k b) n
    put_grown = count-suc (put s k b) n

    by : (k < n) ⊎ (n ≤ k) → (k < n → count_below (put s k b) n + as_number (s k) ≡ count_below s n + as_number b)
        → count_below (put s k b) (suc n) + as_number (s k) ≡ count_below s (suc n) + as_number b
    by (inl less) before =
        let same : as_number (put s k b n) ≡ as_number (s n) = ap (λ v. as_number v) (put_other s k b n (omega arith)) in
        let rest : count_below (put s k b) n + as_number (s k) ≡ count_below s n + as_number b = before less in
        omega (arith, grown, put_grown, same, rest)
    by (inr more) before =
        let last : n ≡ k = omega arith in
        let here : as_number (put s k b n) ≡ as_number b = ap (λ v. as_number v) (ap (put s k b) last ∙ put_same s k b) in
        let was : as_number (s n) ≡ as_number (s k) = ap (λ m. as_number (s m)) last in
        let rest : count_below (put s k b) n ≡ count_below s n = count-past s k b n more in
        omega (arith, grown, put_grown, here, was, rest)
