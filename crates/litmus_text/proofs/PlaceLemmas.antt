-- The calls of one core after another.
use Rattle.std.proofs.Common.{◌≡◌, ℕ, suc, ◌+◌, List, [], ◌∷◌, ◌++◌, sym, ap, refl, ◌∙◌, arith, append-nil, append_assoc}
use Rattle.std.specs.List.{flat_map, range_with_len}
use Rattle.trace_words.proofs.TextLemmas.{range_more}

flat-append : {X Y : Type 0} (f : X → List Y) (xs ys : List X) → flat_map f (xs ++ ys) ≡ flat_map f xs ++ flat_map f ys
flat-append f [] ys = refl
flat-append f (x ∷ xs) ys = ap (λ l. f x ++ l) (flat-append f xs ys) ∙ sym (append_assoc (f x) (flat_map f xs) (flat_map f ys))

-- of one core more
pub cores_more : {X : Type 0} (f : ℕ → List X) (n : ℕ) (old new : List X) → old ≡ flat_map f (range_with_len 0 n) → new ≡ old ++ f n
    → new ≡ flat_map f (range_with_len 0 (n + 1))
cores_more f n old new h e =
    let s : n + 1 ≡ suc n = omega arith in
    e ∙ ap (λ l. l ++ f n) h ∙ sym (ap (λ m. flat_map f (range_with_len 0 m)) s ∙ ap (flat_map f) (range_more 0 n n (omega arith))
    ∙ flat-append f (range_with_len 0 n) (n ∷ []) ∙ ap (λ l. flat_map f (range_with_len 0 n) ++ l) (append-nil (f n)))
