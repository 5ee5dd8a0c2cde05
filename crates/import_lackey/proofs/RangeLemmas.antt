-- Ranges, one after another.
use Rattle.std.proofs.Common.{◌≡◌, ℕ, ◌+◌, ◌<◌, List, ◌∷◌, ◌++◌, length, drop, get_or, sym, ap, ◌∙◌, append_assoc}
use Rattle.std.proofs.lemmas.List.{drop_more}
use Rattle.std.specs.List.{flat_map}

-- what one element more comes to
pub flat_added : {X Y : Type 0} (f : X → List Y) (xs : List X) (n : ℕ) (x : X) (all new whole : List Y) → n < length xs → x ≡ get_or xs n x
    → all ++ flat_map f (drop n xs) ≡ whole → new ≡ all ++ f x → new ++ flat_map f (drop (n + 1) xs) ≡ whole
flat_added f xs n x all new whole p is h e =
    let rest = flat_map f (drop (n + 1) xs) in
    let cut : flat_map f (drop n xs) ≡ f (get_or xs n x) ++ flat_map f (drop (n + 1) xs) = ap (flat_map f) (drop_more xs n x p) in
    ap (λ l. l ++ rest) e ∙ append_assoc all (f x) rest ∙ ap (λ y. all ++ (f y ++ rest)) is ∙ ap (λ l. all ++ l) (sym cut) ∙ h
