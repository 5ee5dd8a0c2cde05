-- Counts of texts, one after another
use Rattle.std.proofs.Common.{◌≡◌, ℕ, ◌+◌, ◌<◌, List, [], ◌∷◌, ◌++◌, take, drop, length, get_or, map, refl, sym, ap, ◌∙◌, subst}
use Rattle.std.proofs.lemmas.List.{take_more, drop_more, map-append, append_assoc}
use Rattle.std.specs.Prelude.{if◌then◌else◌}
use Rattle.litmus.specs.Counts.{count_line, is_among, lines_behind, often}

-- what is written of the text at a place
abbrev pub line_at : {X : Type 0} → (X → List ℕ) → List X → ℕ → List ℕ → List ℕ
line_at f xs n text = if is_among (map f (take n xs)) text then [] else count_line (often (map f (drop n xs)) text) text

-- the counts of texts of which this is the first
split : (before texts all : List (List ℕ)) (text : List ℕ) → all ≡ text ∷ texts
    → lines_behind before all ≡ (if is_among before text then [] else count_line (often all text) text) ++ lines_behind (before ++ text ∷ []) texts
split before texts all text e =
    subst (λ a. lines_behind before a ≡ (if is_among before text then [] else count_line (often a text) text)
    ++ lines_behind (before ++ text ∷ []) texts) (sym e) refl

-- the text at a place has its count
pub counted_next : {X : Type 0} (f : X → List ℕ) (xs : List X) (n : ℕ) (d : X) (text old new all : List ℕ) → n < length xs
    → f (get_or xs n d) ≡ text → old ++ lines_behind (map f (take n xs)) (map f (drop n xs)) ≡ all → new ≡ old ++ line_at f xs n text
    → new ++ lines_behind (map f (take (n + 1) xs)) (map f (drop (n + 1) xs)) ≡ all
counted_next f xs n d text old new all lt same before is =
    let left : map f (drop n xs) ≡ text ∷ map f (drop (n + 1) xs) =
    ap (map f) (drop_more xs n d lt) ∙ ap (λ t. t ∷ map f (drop (n + 1) xs)) same in
    let gone : map f (take (n + 1) xs) ≡ map f (take n xs) ++ text ∷ [] =
    ap (map f) (take_more xs n d lt) ∙ map-append f (take n xs) (get_or xs n d ∷ []) ∙ ap (λ t. map f (take n xs) ++ t ∷ []) same in
    let rest = lines_behind (map f (take n xs) ++ text ∷ []) (map f (drop (n + 1) xs)) in
    ap (λ ts. new ++ lines_behind ts (map f (drop (n + 1) xs))) gone
    ∙ ap (λ out. out ++ rest) is
    ∙ append_assoc old (line_at f xs n text) rest
    ∙ ap (λ more. old ++ more) (sym (split (map f (take n xs)) (map f (drop (n + 1) xs)) (map f (drop n xs)) text left))
    ∙ before
