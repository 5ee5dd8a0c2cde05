-- Places of a list to which one element came
use Rattle.machine_model.proofs.Words.{◌≡◌, ℕ, zero, suc, ◌<◌, refl, ap, arith, Some, List, [], ◌∷◌, ◌++◌, ◌⊎◌, inl, inr, length, slice_get, nth}

pub get_old : {A : Type 0} (xs : List A) (y : A) (i : ℕ) (x : A) → slice_get xs i ≡ Some x → slice_get (xs ++ y ∷ []) i ≡ Some x
get_old [] y i x h = absurd cc
get_old (z ∷ xs) y zero x h = h
get_old (z ∷ xs) y (suc i) x h = get_old xs y i x h

pub get_new : {A : Type 0} (xs : List A) (y : A) → slice_get (xs ++ y ∷ []) (length xs) ≡ Some y
get_new [] y = refl
get_new (z ∷ xs) y = get_new xs y

-- an element is an old one, or the one that came
pub get_either : {A : Type 0} (xs : List A) (y : A) (i : ℕ) (x : A) → slice_get (xs ++ y ∷ []) i ≡ Some x
    → ((slice_get xs i ≡ Some x) × (i < length xs)) ⊎ ((i ≡ length xs) × (x ≡ y))
get_either [] y zero x h = inr (refl, cc)
get_either [] y (suc i) x h = absurd cc
get_either (z ∷ xs) y zero x h = inl (h, omega arith)
get_either (z ∷ xs) y (suc i) x h = elim (get_either xs y i x h) [
  | inl k ↦ inl (k.0, omega (arith, k.1))
  | inr k ↦ inr (ap suc k.0, k.1)
]

pub at_old : {A : Type 0} (xs : List A) (y : A) (k : ℕ) (x : A) → nth xs k ≡ Some x → nth (xs ++ y ∷ []) k ≡ Some x
at_old xs y zero x h = h
at_old xs y (suc i) x h = get_old xs y i x h

pub at_new : {A : Type 0} (xs : List A) (y : A) → nth (xs ++ y ∷ []) (suc (length xs)) ≡ Some y
at_new xs y = get_new xs y

pub at_either : {A : Type 0} (xs : List A) (y : A) (k : ℕ) (x : A) → nth (xs ++ y ∷ []) k ≡ Some x
    → ((nth xs k ≡ Some x) × (k < suc (length xs))) ⊎ ((k ≡ suc (length xs)) × (x ≡ y))
at_either xs y zero x h = absurd cc
at_either xs y (suc i) x h = elim (get_either xs y i x h) [
  | inl k ↦ inl (k.0, omega (arith, k.1))
  | inr k ↦ inr (ap suc k.0, k.1)
]

-- what stands at a number is within the list
pub within : {A : Type 0} (xs : List A) (k : ℕ) (x : A) → nth xs k ≡ Some x → k < suc (length xs)
within xs zero x h = absurd cc
within [] (suc k) x h = absurd cc
within (y ∷ xs) (suc zero) x h = omega arith
within (y ∷ xs) (suc (suc k)) x h = omega (arith, within xs (suc k) x h)
