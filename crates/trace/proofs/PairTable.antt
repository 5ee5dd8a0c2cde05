-- The table of pairs of digits: what it has for each number below 100 are the number's two decimal digits.
use Rattle.std.proofs.Common.{◌≡◌, ℕ, zero, suc, ◌+◌, ◌*◌, ◌/◌, ◌%◌, ◌<◌, List, [], ◌∷◌, get_or, arith, refl, ap, ◌∙◌}
use Rattle.trace.specs.declared.log_lines.TheConstants.{PAIRS}

-- the digits of so many numbers, from this one on
abbrev pairs : ℕ → ℕ → List ℕ
pairs number zero = []
pairs number (suc n) = (48 + number / 10) ∷ (48 + number % 10) ∷ pairs (suc number) n

tens_in : (number n k : ℕ) → k < n → get_or (pairs number n) (2 * k) 0 ≡ 48 + (number + k) / 10
tens_in number zero k h = absurd (omega arith)
tens_in number (suc n) zero h = let same : number ≡ number + 0 = omega arith in ap (λ m. 48 + m / 10) same
tens_in number (suc n) (suc k) h =
    let at : 2 * suc k ≡ suc (suc (2 * k)) = omega arith in
    let same : suc number + k ≡ number + suc k = omega arith in
    ap (λ i. get_or (pairs number (suc n)) i 0) at ∙ tens_in (suc number) n k (omega arith) ∙ ap (λ m. 48 + m / 10) same

ones_in : (number n k : ℕ) → k < n → get_or (pairs number n) (suc (2 * k)) 0 ≡ 48 + (number + k) % 10
ones_in number zero k h = absurd (omega arith)
ones_in number (suc n) zero h = let same : number ≡ number + 0 = omega arith in ap (λ m. 48 + m % 10) same
ones_in number (suc n) (suc k) h =
    let at : suc (2 * suc k) ≡ suc (suc (suc (2 * k))) = omega arith in
    let same : suc number + k ≡ number + suc k = omega arith in
    ap (λ i. get_or (pairs number (suc n)) i 0) at ∙ ones_in (suc number) n k (omega arith) ∙ ap (λ m. 48 + m % 10) same

table : PAIRS ≡ pairs 0 100
table = refl

pub tens_at : (k : ℕ) → k < 100 → get_or PAIRS (2 * k) 0 ≡ 48 + k / 10
tens_at k within =
    let same : 0 + k ≡ k = omega arith in
    ap (λ (l : List ℕ). get_or l (2 * k) 0) table ∙ tens_in 0 100 k within ∙ ap (λ m. 48 + m / 10) same

pub ones_at : (k : ℕ) → k < 100 → get_or PAIRS (2 * k + 1) 0 ≡ 48 + k % 10
ones_at k within =
    let at : 2 * k + 1 ≡ suc (2 * k) = omega arith in
    let same : 0 + k ≡ k = omega arith in
    ap (λ i. get_or PAIRS i 0) at ∙ ap (λ (l : List ℕ). get_or l (suc (2 * k)) 0) table ∙ ones_in 0 100 k within
    ∙ ap (λ m. 48 + m % 10) same
