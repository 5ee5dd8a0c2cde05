-- Two rows, life by life.
use Rattle.std.proofs.Common.{◌≡◌, ◌≢◌, ◌⊎◌, inl, inr, ℕ, zero, suc, ◌≤◌, Bool, true, false, List, [], ◌∷◌, arith, refl, drop, length, nat_eq}
use Rattle.std.proofs.lemmas.Bool.Decides.{nat_tests}
use Rattle.draw_lives.specs.Joining.{row_goes_on}
use Rattle.draw_steps.specs.declared.shapes.Stretch.{Stretch}

-- where one of them ends: the other must, too
pub record EndsSo (xs ys : List Stretch) (n : ℕ) : Type 0 where
  pub same : length xs ≡ length ys → row_goes_on (drop n xs) (drop n ys) ≡ true
  pub other : length xs ≢ length ys → row_goes_on (drop n xs) (drop n ys) ≡ false

ends_so : (xs ys : List Stretch) (n : ℕ) → (length xs ≤ n) ⊎ (length ys ≤ n) → n ≤ length xs → n ≤ length ys → EndsSo xs ys n
ends_so [] [] zero h a b = record { same = λ e. refl; other = λ e. absurd (e refl) }
ends_so [] (y ∷ ys) zero h a b = record { same = λ e. absurd (omega (arith, e)); other = λ e. refl }
ends_so (x ∷ xs) [] zero h a b = record { same = λ e. absurd (omega (arith, e)); other = λ e. refl }
ends_so (x ∷ xs) (y ∷ ys) zero (inl h) a b = absurd (omega (arith, h))
ends_so (x ∷ xs) (y ∷ ys) zero (inr h) a b = absurd (omega (arith, h))
ends_so [] ys (suc n) h a b = absurd (omega (arith, a))
ends_so (x ∷ xs) [] (suc n) h a b = absurd (omega (arith, b))
ends_so (x ∷ xs) (y ∷ ys) (suc n) h a b =
    let rest = ends_so xs ys n (less h) (omega (arith, a)) (omega (arith, b)) in
    record { same = λ e. rest.same (omega (arith, e)); other = λ e. rest.other (λ same. e (omega (arith, same))) }
  where
    less : (length (x ∷ xs) ≤ suc n) ⊎ (length (y ∷ ys) ≤ suc n) → (length xs ≤ n) ⊎ (length ys ≤ n)
    less (inl h) = inl (omega (arith, h))
    less (inr h) = inr (omega (arith, h))

pub rows_end : (xs ys : List Stretch) (n : ℕ) → (length xs ≤ n) ⊎ (length ys ≤ n) → n ≤ length xs → n ≤ length ys
    → row_goes_on (drop n xs) (drop n ys) ≡ nat_eq (length xs) (length ys)
rows_end xs ys n h a b = go (length xs) (length ys) (nat_eq (length xs) (length ys)) (ends_so xs ys n h a b).same (ends_so xs ys n h a b).other refl
  where
    go : (k m : ℕ) (t : Bool) → (k ≡ m → row_goes_on (drop n xs) (drop n ys) ≡ true) → (k ≢ m → row_goes_on (drop n xs) (drop n ys) ≡ false)
        → nat_eq k m ≡ t → row_goes_on (drop n xs) (drop n ys) ≡ t
    go k m true same other e = let is : k ≡ m = grind (arith, nat_tests) in same is
    go k m false same other e = let isnt : k ≢ m = grind (arith, nat_tests) in other isnt
