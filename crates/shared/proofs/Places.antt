-- Lists that are written place by place
use Rattle.machine_model.proofs.Words.{◌≡◌, ℕ, ◌+◌, ◌<◌, List, [], ◌∷◌, ◌++◌, refl, sym, ap, ◌∙◌, take, drop, map, length, get_or, set, length-map}
use Rattle.std.specs.Prelude.{Option, Some}
use Rattle.std.proofs.lemmas.List.{drop_more, set_at, set-get_or, length-append, map_push, map_more}

-- what is told of one more
pub told_more : {X Y : Type 0} (f : X → Y) (xs : List X) (x : X) (n : ℕ) (was told : List Y) → length xs ≡ n → n < length was
    → told ≡ map f xs ++ drop n was → set told n (f x) ≡ map f (xs ++ x ∷ []) ++ drop (n + 1) was
told_more f xs x n was told many low e =
    let d = f x in
    let front : length (map f xs) ≡ n = length-map xs f ∙ many in
    let rest : drop n was ≡ get_or was n d ∷ drop (n + 1) was = drop_more was n d low in
    let opened : told ≡ map f xs ++ get_or was n d ∷ drop (n + 1) was = e ∙ ap (λ ys. map f xs ++ ys) rest in
    let put : set told n d ≡ map f xs ++ d ∷ drop (n + 1) was =
    ap (λ ys. set ys n d) opened ∙ set_at (map f xs) (get_or was n d) (drop (n + 1) was) d n front in
    let over : map f (xs ++ x ∷ []) ++ drop (n + 1) was ≡ map f xs ++ d ∷ drop (n + 1) was =
    ap (λ ys. ys ++ drop (n + 1) was) (map_push f xs x) ∙ shift (map f xs) d (drop (n + 1) was) in
    put ∙ sym over
  where
    shift : {Y : Type 0} (ys : List Y) (y : Y) (zs : List Y) → (ys ++ y ∷ []) ++ zs ≡ ys ++ y ∷ zs
    shift [] y zs = refl
    shift (v ∷ ys) y zs = ap (λ us. v ∷ us) (shift ys y zs)

-- what is said by one more
pub said_more : {X Y : Type 0} (f : Y → Option X) (raws : List Y) (n : ℕ) (d : Y) (xs : List X) (x : X) → n < length raws
    → f (get_or raws n d) ≡ Some x → map f (take n raws) ≡ map Some xs → map f (take (n + 1) raws) ≡ map Some (xs ++ x ∷ [])
said_more f raws n d xs x low one e =
    let first : map f (take (n + 1) raws) ≡ map f (take n raws) ++ f (get_or raws n d) ∷ [] = map_more f raws n d low in
    let joined : map f (take n raws) ++ f (get_or raws n d) ∷ [] ≡ map Some xs ++ Some x ∷ [] =
    ap (λ ys. ys ++ f (get_or raws n d) ∷ []) e ∙ ap (λ y. map Some xs ++ y ∷ []) one in
    first ∙ joined ∙ sym (map_push Some xs x)

pub one_longer : {Y : Type 0} (ys : List Y) (y : Y) (n : ℕ) → length ys ≡ n → length (ys ++ y ∷ []) ≡ n + 1
one_longer ys y n e = length-append ys (y ∷ []) ∙ ap (λ k. k + 1) e

-- a place that is written as it was
pub same_place : {X : Type 0} (xs : List X) (n : ℕ) (d put : X) → put ≡ get_or xs n d → set xs n put ≡ xs
same_place xs n d put e = ap (λ x. set xs n x) e ∙ set-get_or xs n d
