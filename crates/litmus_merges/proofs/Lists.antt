-- Places of lists
use Rattle.std.proofs.Common.{◌≡◌, ℕ, zero, suc, ◌+◌, ◌<◌, ◌⊎◌, inl, inr, List, [], ◌∷◌, ◌++◌, Option, Some, None, arith, ap, get_or, length, map}
use Rattle.std.proofs.Common.{refl, slice_get, sym, ◌∙◌}
use Rattle.std.specs.Prelude.{option_map}
use Rattle.std.proofs.lemmas.Option.{slice_get-map}

pub get_here : {A : Type 0} (xs : List A) (at : ℕ) (d : A) → at < length xs → slice_get xs at ≡ Some (get_or xs at d)
get_here [] at d l = absurd (omega (arith, l))
get_here (y ∷ ys) zero d l = refl
get_here (y ∷ ys) (suc at) d l = get_here ys at d (omega (arith, l))

pub get_read : {A : Type 0} (xs : List A) (at : ℕ) (x : A) → at < length xs → x ≡ get_or xs at x → slice_get xs at ≡ Some x
get_read xs at x l e = get_here xs at x l ∙ ap Some (sym e)

pub get_within : {A : Type 0} (xs : List A) (at : ℕ) (x : A) → slice_get xs at ≡ Some x → at < length xs
get_within [] at x e = absurd cc
get_within (y ∷ ys) zero x e = omega arith
get_within (y ∷ ys) (suc at) x e = let more = get_within ys at x e in omega (arith, more)

-- there is something at a place that the list has
pub get_some : {A : Type 0} (xs : List A) (at : ℕ) → at < length xs → (x : A) × (slice_get xs at ≡ Some x)
get_some [] at l = absurd (omega (arith, l))
get_some (y ∷ ys) zero l = (y, refl)
get_some (y ∷ ys) (suc at) l = get_some ys at (omega (arith, l))

pub get_one : {A : Type 0} (xs : List A) (at : ℕ) (x y : A) → slice_get xs at ≡ Some x → slice_get xs at ≡ Some y → x ≡ y
get_one xs at x y e f = let same : Some x ≡ Some y = sym e ∙ f in cc

-- one of the first so many, or the next
pub below : (k at : ℕ) → k < at + 1 → (k < at) ⊎ (k ≡ at)
below zero zero l = inr refl
below zero (suc at) l = inl (omega arith)
below (suc k) zero l = absurd (omega (arith, l))
below (suc k) (suc at) l = more (below k at (omega (arith, l)))
  where
    more : (k < at) ⊎ (k ≡ at) → (suc k < suc at) ⊎ (suc k ≡ suc at)
    more (inl h) = inl (omega (arith, h))
    more (inr h) = inr (ap suc h)

-- a list with one more
pub get_old : {A : Type 0} (xs : List A) (y x : A) (j : ℕ) → slice_get xs j ≡ Some x → slice_get (xs ++ y ∷ []) j ≡ Some x
get_old [] y x j e = absurd cc
get_old (z ∷ xs) y x zero e = e
get_old (z ∷ xs) y x (suc j) e = get_old xs y x j e

pub get_new : {A : Type 0} (xs : List A) (y : A) → slice_get (xs ++ y ∷ []) (length xs) ≡ Some y
get_new [] y = refl
get_new (z ∷ xs) y = get_new xs y

pub old_or_new : {A : Type 0} (xs : List A) (y x : A) (j : ℕ) → slice_get (xs ++ y ∷ []) j ≡ Some x
    → (slice_get xs j ≡ Some x) ⊎ ((j ≡ length xs) × (y ≡ x))
old_or_new [] y x zero e = let same : y ≡ x = cc in inr (refl, same)
old_or_new [] y x (suc j) e = absurd cc
old_or_new (z ∷ xs) y x zero e = inl e
old_or_new (z ∷ xs) y x (suc j) e = more (old_or_new xs y x j e)
  where
    more : (slice_get xs j ≡ Some x) ⊎ ((j ≡ length xs) × (y ≡ x)) → (slice_get xs j ≡ Some x) ⊎ ((suc j ≡ suc (length xs)) × (y ≡ x))
    more (inl h) = inl h
    more (inr h) = inr (ap suc h.0, h.1)

-- lists of replies that are told alike are one
pub told_one : {A : Type 0} (xs ys : List A) → map Some xs ≡ map Some ys → xs ≡ ys
told_one [] [] e = refl
told_one [] (y ∷ ys) e = absurd cc
told_one (x ∷ xs) [] e = absurd cc
told_one (x ∷ xs) (y ∷ ys) e =
    let head : x ≡ y = cc in
    let tail : map Some xs ≡ map Some ys = cc in
    let rest : xs ≡ ys = told_one xs ys tail in
    cc

-- a list of which a place has no reply isn't one of replies alone
pub not_told : {A : Type 0} (told : List (Option A)) (k : ℕ) → slice_get told k ≡ Some None → (replies : List A) → ¬ told ≡ map Some replies
not_told {A} told k none replies e = go (slice_get replies k)
    (sym (slice_get-map Some replies k) ∙ (ap (λ xs. slice_get xs k) (sym e) ∙ none))
  where
    go : (x : Option A) → option_map Some x ≡ Some None → ⊥
    go None h = absurd cc
    go (Some y) h = absurd cc

-- what was read from a list that is this one
pub read_there : {A : Type 0} (xs ys : List A) (at : ℕ) (x : A) → ys ≡ xs → at < length xs → x ≡ get_or ys at x → slice_get xs at ≡ Some x
read_there xs ys at x same l e = get_read xs at x l (e ∙ ap (λ zs. get_or zs at x) same)
