-- Steps that are read in three parts
use Rattle.std.proofs.Common.{◌≡◌, ℕ, List, ◌++◌, take, drop, sym, ap, ◌∙◌}
use Rattle.std.proofs.lemmas.List.{append_assoc, take-append-drop}

-- the three parts are all
pub parts_are : {X : Type 0} (xs : List X) (a b : ℕ) → xs ≡ take a xs ++ take b (drop a xs) ++ drop b (drop a xs)
parts_are xs a b = sym (append_assoc (take a xs) (take b (drop a xs)) (drop b (drop a xs))
    ∙ ap (λ rest. take a xs ++ rest) (take-append-drop b (drop a xs)) ∙ take-append-drop a xs)

-- so it is with these parts
pub parts_of : {X : Type 0} (xs first rest middle last : List X) (a b : ℕ) → first ≡ take a xs → rest ≡ drop a xs → middle ≡ take b rest
    → last ≡ drop b rest → xs ≡ first ++ middle ++ last
parts_of xs first rest middle last a b e f g h =
    let m : middle ≡ take b (drop a xs) = g ∙ ap (take b) f in
    let l : last ≡ drop b (drop a xs) = h ∙ ap (drop b) f in
    parts_are xs a b ∙ sym (ap (λ x. x ++ take b (drop a xs) ++ drop b (drop a xs)) e)
    ∙ sym (ap (λ x. first ++ x ++ drop b (drop a xs)) m) ∙ sym (ap (λ x. first ++ middle ++ x) l)
