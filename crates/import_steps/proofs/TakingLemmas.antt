-- Files by their names, and the lines of files.
use Rattle.std.proofs.Common.{◌≡◌, ℕ, zero, suc, ◌+◌, ◌<◌, List, [], ◌∷◌, ◌++◌, length, take, drop, get_or, map, arith, refl, sym, ap, ◌∙◌}
use Rattle.std.proofs.Common.{true, false, append_assoc, append-nil, eqb, leb, set}
use Rattle.std.proofs.lemmas.Bool.Decides.{nat_tests}
use Rattle.import_steps.specs.declared.taking.FileUse.{FileUse}
use Rattle.std.proofs.lemmas.List.{drop_more, take_more, length-take-le, map-set}
use Rattle.std.specs.Str.{bytes_eq}
use Rattle.import_steps.specs.Taking.{place_named, use_of, widened, files_with}
use Rattle.import_steps.specs.Texts.{use_lines, use_text}

pub map-at : {X Y : Type 0} (f : X → Y) (xs : List X) (k : ℕ) (d : X) (e : Y) → k < length xs → get_or (map f xs) k e ≡ f (get_or xs k d)
map-at f [] k d e p = absurd (omega arith)
map-at f (x ∷ xs) zero d e p = refl
map-at f (x ∷ xs) (suc k) d e p = map-at f xs k d e (omega arith)

pub map-size : {X Y : Type 0} (f : X → Y) (xs : List X) → length (map f xs) ≡ length xs
map-size f [] = refl
map-size f (x ∷ xs) = let h = map-size f xs in omega (arith, h)

map-push : {X Y : Type 0} (f : X → Y) (xs : List X) (x : X) → map f (xs ++ x ∷ []) ≡ map f xs ++ f x ∷ []
map-push f [] x = refl
map-push f (y ∷ ys) x = ap (λ l. f y ∷ l) (map-push f ys x)

-- one more file was copied
pub copied_more : (copies : List FileUse) (f : FileUse) (us : List (List ℕ × ℕ)) (n : ℕ) → n < length us → map use_of copies ≡ take n us
    → use_of f ≡ get_or us n ([], 0) → map use_of (copies ++ f ∷ []) ≡ take (n + 1) us
copied_more copies f us n p h e =
    map-push use_of copies f ∙ (ap (λ l. l ++ use_of f ∷ []) h ∙ (ap (λ u. take n us ++ u ∷ []) e ∙ sym (take_more us n ([], 0) p)))

-- another file stands here
pub named_more : (name : List ℕ) (us : List (List ℕ × ℕ)) (n all : ℕ) → n < length us → bytes_eq (get_or us n ([], 0)).0 name ≡ false
    → n + place_named name (drop n us) ≡ all → n + 1 + place_named name (drop (n + 1) us) ≡ all
named_more name us n all p e h =
    let one : place_named name (drop n us) ≡ place_named name (drop (n + 1) us) + 1 = ap (place_named name) (drop_more us n ([], 0) p) ∙ rw e refl in
    omega (arith, h, one)

pub named_here : (name : List ℕ) (us : List (List ℕ × ℕ)) (n all : ℕ) → n < length us → bytes_eq (get_or us n ([], 0)).0 name ≡ true
    → n + place_named name (drop n us) ≡ all → n ≡ all
named_here name us n all p e h =
    let one : place_named name (drop n us) ≡ 0 = ap (place_named name) (drop_more us n ([], 0) p) ∙ rw e refl in
    omega (arith, h, one)

-- the lines of one more file
uses-append : (n : ℕ) (us vs : List (List ℕ × ℕ)) → use_lines n (us ++ vs) ≡ use_lines n us ++ use_lines (n + length us) vs
uses-append n [] vs = let e : n + 0 ≡ n = omega arith in rw e refl
uses-append n (u ∷ us) vs =
    let e : n + 1 + length us ≡ n + length (u ∷ us) = omega arith in
    ap (λ l. use_text n u ++ l) (uses-append (n + 1) us vs ∙ ap (λ k. use_lines (n + 1) us ++ use_lines k vs) e)
    ∙ sym (append_assoc (use_text n u) (use_lines (n + 1) us) (use_lines (n + length (u ∷ us)) vs))

pub uses_push : (init all line : List ℕ) (us : List (List ℕ × ℕ)) (n : ℕ) → n < length us → all ≡ init ++ use_lines 0 (take n us)
    → line ≡ use_text n (get_or us n ([], 0)) → all ++ line ≡ init ++ use_lines 0 (take (n + 1) us)
uses_push init all line us n p h e =
    let u = get_or us n ([], 0) in
    let size : 0 + length (take n us) ≡ n = omega (arith, length-take-le n us (omega arith)) in
    let more : use_lines 0 (take (n + 1) us) ≡ use_lines 0 (take n us) ++ use_text n u =
    ap (use_lines 0) (take_more us n ([], 0) p) ∙ uses-append 0 (take n us) (u ∷ [])
    ∙ ap (λ k. use_lines 0 (take n us) ++ use_lines k (u ∷ [])) size
    ∙ ap (λ l. use_lines 0 (take n us) ++ l) (append-nil (use_text n u)) in
    ap (λ l. l ++ line) h ∙ (append_assoc init (use_lines 0 (take n us)) line
    ∙ (ap (λ l. init ++ (use_lines 0 (take n us) ++ l)) e ∙ ap (λ l. init ++ l) (sym more)))

-- ---- a file that reaches further

leb_false : (a b : ℕ) → b < a → leb a b ≡ false
leb_false a b h = grind (arith, nat_tests)

eqb_less : (a b : ℕ) → a < b → eqb a b ≡ false
eqb_less a b h = grind (arith, nat_tests)

set_known : (us : List (List ℕ × ℕ)) (name : List ℕ) (reach : ℕ) → place_named name us < 16 → place_named name us < length us
    → set us (place_named name us) (widened (get_or us (place_named name us) (name, 0)) reach) ≡ files_with us name reach
set_known us name reach few low = rw (leb_false 16 (place_named name us) few, eqb_less (place_named name us) (length us) low) refl

pub files_set : (files : List FileUse) (place : ℕ) (name : List ℕ) (reach : ℕ) (f w : FileUse) → place ≡ place_named name (map use_of files)
    → place < 16 → place < length files → f ≡ get_or files place f → use_of w ≡ widened (use_of f) reach
    → map use_of (set files place w) ≡ files_with (map use_of files) name reach
files_set files place name reach f w e few low is wide =
    let us = map use_of files in
    let here : get_or us place (name, 0) ≡ use_of f = map-at use_of files place f (name, 0) low ∙ ap use_of (sym is) in
    let elem : use_of w ≡ widened (get_or us place (name, 0)) reach = wide ∙ ap (λ u. widened u reach) (sym here) in
    let size = map-size use_of files in
    map-set use_of files place w ∙ (ap (set us place) elem
    ∙ (ap (λ k. set us k (widened (get_or us k (name, 0)) reach)) e
    ∙ set_known us name reach (omega (arith, e)) (omega (arith, e, size))))
