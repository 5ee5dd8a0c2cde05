-- A list of one value reads as that value.
use Rattle.std.proofs.Math.ListN.{set}
use Rattle.std.proofs.lemmas.List.{get_or-set_same, get_or_past, set-get_or}
use Rattle.std.proofs.Common.{Option, None, length, sym, ap, ◌∙◌, ◌/◌, ◌<◌, ◌≤◌, ◌≡◌, ℕ, List, zero, suc, replicate, get_or, refl}

pub get_or-replicate_default : {X : Type 0} (n : ℕ) (x : X) (i : ℕ) → get_or (replicate n x) i x ≡ x
get_or-replicate_default zero x i = refl
get_or-replicate_default (suc n) x zero = refl
get_or-replicate_default (suc n) x (suc i) = get_or-replicate_default n x i

-- the table that was put at a page's place is the one that is read there
pub read_there : {X : Type 0} (xs : List (Option X)) (page width below : ℕ) (x : Option X) → width ≡ below → page / width < length xs
    → get_or (set xs (page / width) x) (page / below) None ≡ x
read_there xs page width below x e within =
    ap (λ k. get_or (set xs (page / width) x) (page / k) None) (sym e) ∙ get_or-set_same xs (page / width) x None within

-- what is found at a page's place is what is read there
pub read_now : {X : Type 0} (xs : List (Option X)) (page width below : ℕ) (x : Option X) → width ≡ below → page / width < length xs
    → x ≡ get_or xs (page / width) x → get_or xs (page / below) None ≡ x
read_now xs page width below x e within is =
    let i = page / width in
    ap (λ ys. get_or ys (page / below) None) (sym (ap (set xs i) is ∙ set-get_or xs i x)) ∙ read_there xs page width below x e within

-- no table is at a page's place where the places end before it
pub read_past : {X : Type 0} (xs : List (Option X)) (page width below : ℕ) → width ≡ below → length xs ≤ page / width
    → get_or xs (page / below) None ≡ None
read_past xs page width below e past = ap (λ k. get_or xs (page / k) None) (sym e) ∙ get_or_past xs (page / width) None past
