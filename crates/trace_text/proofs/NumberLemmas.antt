-- Values of digits.
use Rattle.std.proofs.Common.{◌≡◌, ℕ, suc, ◌+◌, ◌*◌, ◌^◌, ◌<◌, ◌≤◌, Bool, true, false, cond, ltb, List, [], ◌∷◌, length, drop}
use Rattle.std.proofs.Common.{get_or, Option, Some, None, arith, refl, sym, ap, ◌∙◌, drop-cons, drop_of_length-le}
use Rattle.std.proofs.Math.Nat.{pow-le-pow_right, mul-le-mul_left}
use Rattle.std.proofs.lemmas.Bool.{lt-ltb}
use Rattle.std.proofs.lemmas.Bool.Decides.{nat_tests}
use Rattle.std.specs.Prelude.{option_and_then}
use Rattle.trace_text.specs.Number.{digit_of, value_from, below_word}

grows : (base n d : ℕ) → 1 < base → 2 ^ 64 ≤ n → 2 ^ 64 ≤ n * base + d
grows base n d p q = grind arith

passed_test : (base n d : ℕ) (b : Bool) (rest : ℕ → Option ℕ) → 1 < base → 2 ^ 64 ≤ n → ((m : ℕ) → 2 ^ 64 ≤ m → below_word (rest m) ≡ None)
    → below_word (cond b (rest (n * base + d)) None) ≡ None
passed_test base n d false rest p q f = refl
passed_test base n d true rest p q f = f (n * base + d) (grows base n d p q)

passed_digit : (base n : ℕ) (rest : ℕ → Option ℕ) (o : Option ℕ) → 1 < base → 2 ^ 64 ≤ n → ((m : ℕ) → 2 ^ 64 ≤ m → below_word (rest m) ≡ None)
    → below_word (option_and_then (λ d. cond (ltb d base) (rest (n * base + d)) None) o) ≡ None
passed_digit base n rest None p q f = refl
passed_digit base n rest (Some d) p q f = passed_test base n d (ltb d base) rest p q f

-- what has passed 64 bits stays past them
pub too_big : (base n : ℕ) (cs : List ℕ) → 1 < base → 2 ^ 64 ≤ n → below_word (value_from base n cs) ≡ None
too_big base n [] p q = grind (arith, nat_tests)
too_big base n (c ∷ cs) p q = passed_digit base n (λ m. value_from base m cs) (digit_of c) p q (λ m h. too_big base m cs p h)

-- the digit at i goes behind n
pub value_more : (base n i d : ℕ) (cs : List ℕ) → i < length cs → Some d ≡ digit_of (get_or cs i 0) → d < base
    → value_from base n (drop i cs) ≡ value_from base (n * base + d) (drop (suc i) cs)
value_more base n i d cs h e q =
    let test : ltb d base ≡ true = lt-ltb d base q in
    ap (value_from base n) (drop-cons cs i 0 h) ∙ ap (option_and_then (λ x. cond (ltb x base) (value_from base (n * base + x) (drop (suc i) cs)) None)) (sym e)
    ∙ ap (λ b. cond b (value_from base (n * base + d) (drop (suc i) cs)) None) test

-- past 64 bits at the digit at i
pub value_past : (base n i d : ℕ) (cs : List ℕ) (whole : Option ℕ) → 1 < base → i < length cs → Some d ≡ digit_of (get_or cs i 0) → d < base
    → 2 ^ 64 ≤ n * base + d → value_from base n (drop i cs) ≡ whole → None ≡ below_word whole
value_past base n i d cs whole p h e q big same =
    sym (too_big base (n * base + d) (drop (suc i) cs) p big) ∙ ap below_word (sym (value_more base n i d cs h e q) ∙ same)

-- no digit is left
pub value_end : (base n : ℕ) (cs : List ℕ) (i : ℕ) (whole : Option ℕ) → length cs ≤ i → n < 2 ^ 64 → value_from base n (drop i cs) ≡ whole
    → Some n ≡ below_word whole
value_end base n cs i whole h fits same =
    let test : ltb n (2 ^ 64) ≡ true = lt-ltb n (2 ^ 64) fits in
    sym (ap (λ b. cond b (Some n) None) test) ∙ ap below_word (sym (ap (value_from base n) (drop_of_length-le cs h)) ∙ same)

-- at most fifteen digits leave room for another
pub room : (n i : ℕ) → n < 16 ^ i → i < 16 → n < 2 ^ 60
room n i h below = let most : 16 ^ i ≤ 16 ^ 15 = pow-le-pow_right {n = 16} (omega arith) {i = i} {j = 15} (omega arith) in omega arith

pub digit_fits : (n base d : ℕ) → n < 2 ^ 60 → base ≤ 16 → d < base → n * base + d < 2 ^ 64
digit_fits n base d h b e =
    let most : n * base ≤ n * 16 = mul-le-mul_left n b in
    omega arith
