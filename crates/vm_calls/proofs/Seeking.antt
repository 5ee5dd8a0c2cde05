-- Whether some page of a range passes a test is found by going through it
use Rattle.slot_lock.proofs.Words.{◌≡◌, ℕ, zero, suc, ◌+◌, ◌-◌, ◌<◌, ◌≤◌, ◌⊎◌, inl, inr, Bool, true, false, Option, refl, arith, cases_lt, PageRange, has}
use Rattle.slot_lock.proofs.Words.{PageEntry, HasPage, has_in, in_has}

abbrev Found : (ℕ → Bool) → ℕ → ℕ → Type 0
Found test first n = (p : ℕ) × (first ≤ p) × (p < first + n) × (test p ≡ true)

abbrev NotFound : (ℕ → Bool) → ℕ → ℕ → Type 0
NotFound test first n = (p : ℕ) → first ≤ p → p < first + n → test p ≡ false

looked : (test : ℕ → Bool) (first n : ℕ) → Found test first n ⊎ NotFound test first n
looked test first zero = inr (λ p a b. absurd (omega arith))
looked test first (suc n) = step (looked test first n) (test (first + n)) refl
  where
    last : NotFound test first n → test (first + n) ≡ false → (p : ℕ) → first ≤ p → p < first + suc n → (p < first + n)
        ⊎ (first + n ≤ p) → test p ≡ false
    last none e p a b (inl lt) = none p a lt
    last none e p a b (inr le) = let at : p ≡ first + n = omega arith in rw at e

    step : Found test first n ⊎ NotFound test first n → (t : Bool) → test (first + n) ≡ t → Found test first (suc n) ⊎ NotFound test first (suc n)
    step (inl f) t e = inl (f.0, f.1, omega (arith, f.2), f.3)
    step (inr none) true e = inl (first + n, omega arith, omega arith, e)
    step (inr none) false e = inr (λ p a b. last none e p a b (cases_lt p (first + n)))

pub seek : (test : Option PageEntry → Bool) (entry : ℕ → Option PageEntry) (range : PageRange)
    → HasPage test entry range ⊎ ((p : ℕ) → has range p ≡ true → test (entry p) ≡ false)
seek test entry range = by (looked (λ p. test (entry p)) range.first (range.end - range.first))
  where
    by : Found (λ p. test (entry p)) range.first (range.end - range.first) ⊎ NotFound (λ p. test (entry p)) range.first (range.end - range.first)
        → HasPage test entry range ⊎ ((p : ℕ) → has range p ≡ true → test (entry p) ≡ false)
    by (inl f) = inl (f.0, in_has range f.0 f.1 (omega (arith, f.1, f.2)), f.3)
    by (inr none) = inr (λ p in'. let z : (range.first ≤ p) × (p < range.end) = has_in range p in' in none p z.0 (omega (arith, z.0, z.1)))
