-- Tokens, from the gaps before them and after them.
use Rattle.std.proofs.Common.{◌≡◌, ℕ, zero, suc, ◌+◌, ◌<◌, List, [], ◌∷◌, length, take, drop, get_or, arith, refl, ap, ◌∙◌, subst}
use Rattle.std.proofs.Common.{true, false, Bool, not, eqb, Some, None}
use Rattle.std.proofs.lemmas.Bool.Decides.{nat_tests}
use Rattle.import_forms.specs.Tokens.{cut_token, split_at_last, divided_at, occurs}

pub cut_none : (bs : List ℕ) → length bs ≡ 0 → cut_token bs ≡ None
cut_none [] p = refl
cut_none (x ∷ xs) p = absurd (omega arith)

-- ---- the last of some bytes

pub split_found : (mark : ℕ) (bs : List ℕ) (n : ℕ) → n < length bs → eqb (get_or bs n 0) mark ≡ true
    → split_at_last mark (drop (n + 1) bs) ≡ None → split_at_last mark bs ≡ Some (take n bs, drop (n + 1) bs)
split_found mark [] n p e h = absurd (omega arith)
split_found mark (x ∷ xs) zero p e h = rw (h, e) refl
split_found mark (x ∷ xs) (suc n) p e h =
    let s : suc n + 1 ≡ suc (n + 1) = omega arith in
    let h2 : split_at_last mark (drop (n + 1) xs) ≡ None = subst (λ k. split_at_last mark (drop k (x ∷ xs)) ≡ None) s h in
    let all = split_found mark xs n (omega arith) e h2 in
    rw s (ap (divided_at mark x xs) all)

-- ---- a name somewhere

-- no bytes at all stand wherever there is a byte
pub nothing_occurs : (name bs : List ℕ) (a b : Bool) → a ≡ eqb (length name) 0 → a ≡ true → b ≡ eqb (length bs) 0 → not b ≡ occurs name bs
nothing_occurs [] [] a b e t h = ap not h
nothing_occurs [] (x ∷ xs) a b e t h =
    let some : eqb (length (x ∷ xs)) 0 ≡ false = grind (arith, nat_tests) in
    ap not (h ∙ some)
nothing_occurs (y ∷ ys) bs a b e t h =
    let none : length (y ∷ ys) ≡ 0 = grind (arith, nat_tests, e, t) in
    absurd (omega (arith, none))
