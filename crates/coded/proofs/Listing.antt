-- What is told one by one
use Rattle.machine_model.proofs.Words.{◌≡◌, ℕ, ◌+◌, ◌<◌, ◌≤◌, List, ◌++◌, sym, subst, ap, ◌∙◌, take, drop, map, length, get_or, set, arith, take_more}
use Rattle.std.proofs.Common.{min}
use native.Mathlib.Nat.{min_comm, min-le_left}
use Rattle.std.proofs.lemmas.List.{length-take-le}
use Rattle.shared.proofs.Places.{told_more}

-- what is below the lesser of two is below both
pub below_both : (n a b k : ℕ) → k ≡ min a b → n < k → (n < a) × (n < b)
below_both n a b k e h =
    let first : min a b ≤ a = min-le_left a b in
    let turned : min b a ≤ b = min-le_left b a in
    let second : min a b ≤ b = subst (λ m. m ≤ b) (min_comm b a) turned in
    (omega (arith, first, e, h), omega (arith, second, e, h))

-- the first n are told
abbrev pub TellsFirst : {X Y : Type 0} → (X → Y) → List X → ℕ → List Y → List Y → Type 0
TellsFirst f xs n was told = told ≡ map f (take n xs) ++ drop n was

pub one_more : {X Y : Type 0} (f : X → Y) (xs : List X) (n : ℕ) (d : X) (was told : List Y) → n < length xs → n < length was
    → TellsFirst f xs n was told → TellsFirst f xs (n + 1) was (set told n (f (get_or xs n d)))
one_more f xs n d was told low room h =
    let many : length (take n xs) ≡ n = length-take-le n xs (omega (arith, low)) in
    let one = told_more f (take n xs) (get_or xs n d) n was told many room h in
    one ∙ ap (λ ys. map f ys ++ drop (n + 1) was) (sym (take_more xs n d low))

-- the same of an element that goes by another name
pub one_more_of : {X Y : Type 0} (f : X → Y) (xs : List X) (n : ℕ) (x : X) (was told : List Y) → n < length xs → n < length was → x ≡ get_or xs n x
    → TellsFirst f xs n was told → TellsFirst f xs (n + 1) was (set told n (f x))
one_more_of f xs n x was told low room e h =
    subst (λ y. TellsFirst f xs (n + 1) was (set told n (f y))) (sym e) (one_more f xs n x was told low room h)
