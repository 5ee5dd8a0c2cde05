-- Places of lists
use Rattle.std.proofs.Common.{◌≡◌, ℕ, zero, suc, ◌+◌, ◌<◌, ◌⊎◌, inl, inr, List, [], ◌∷◌, ◌++◌, Some, arith, ap, get_or, length, refl, slice_get, sym, take}

-- what stands at a place that the list has
pub get_here : {A : Type 0} (xs : List A) (at : ℕ) (d : A) → at < length xs → slice_get xs at ≡ Some (get_or xs at d)
get_here [] at d l = absurd (omega (arith, l))
get_here (y ∷ ys) zero d l = refl
get_here (y ∷ ys) (suc at) d l = get_here ys at d (omega (arith, l))

pub get_within : {A : Type 0} (xs : List A) (at : ℕ) (x : A) → slice_get xs at ≡ Some x → at < length xs
get_within [] at x e = absurd cc
get_within (y ∷ ys) zero x e = omega arith
get_within (y ∷ ys) (suc at) x e = let more = get_within ys at x e in omega (arith, more)

-- one of the first so many, or the next
pub below : (k at : ℕ) → k < at + 1 → (k < at) ⊎ (k ≡ at)
below zero zero l = inr refl
below zero (suc at) l = inl (omega arith)
below (suc k) zero l = absurd (omega (arith, l))
below (suc k) (suc at) l = more (below k at (omega (arith, l)))
  where
    more : (k < at) ⊎ (k ≡ at) → (suc k < suc at) ⊎ (suc k ≡ suc at)
    more (inl h) = inl (omega (arith, h))
    more (inr h) = inr (ap suc h)
