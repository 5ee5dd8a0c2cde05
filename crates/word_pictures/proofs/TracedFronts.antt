-- The front of a text, and the front of what it tells
use Rattle.std.proofs.Common.{◌≡◌, ℕ, zero, suc, ◌≤◌, ◌==◌, ◌⊎◌, inl, inr, Bool, true, false, List, [], ◌∷◌, ◌++◌, length, take, map, arith}
use Rattle.std.proofs.Common.{refl, sym, ap, ◌∙◌, subst, if◌then◌else◌, append_assoc, append-nil}
use Rattle.std.proofs.lemmas.Bool.Decides.{nat_tests}
use Rattle.std.specs.List.{flat_map, list_any}
use Rattle.trace_io.specs.Lines.{lines_of, onto}
use Rattle.word_pictures.specs.Reading.{newlines}
use Rattle.word_pictures.proofs.Fronts.{first_lines, newlines_more}
use Rattle.word_pictures.specs.Notes.{ended_line, is_note, traced_line, traced_text}
use Rattle.word_pictures.proofs.TracedLines.{lines_traced}

-- each line with a newline
abbrev unlines : List (List ℕ) → List ℕ
unlines ls = flat_map (λ l. l ++ 10 ∷ []) ls

-- ---- a text is the front of its lines, each with a newline

one_before : (x : ℕ) (xs : List ℕ) (ls : List (List ℕ)) → ((rest : List ℕ) × (unlines ls ≡ xs ++ rest))
    → (rest : List ℕ) × (unlines (onto x ls) ≡ (x ∷ xs) ++ rest)
one_before x [] [] h = (10 ∷ [], refl)
one_before x (y ∷ ys) [] (rest, e) = absurd (cc)
one_before x xs (l ∷ ls) (rest, e) = (rest, ap (λ m. x ∷ m) e)

is_begun : (xs : List ℕ) → (rest : List ℕ) × (unlines (lines_of xs) ≡ xs ++ rest)
is_begun [] = ([], refl)
is_begun (x ∷ xs) = go (is_begun xs) (x == 10) refl
  where
    go : ((rest : List ℕ) × (unlines (lines_of xs) ≡ xs ++ rest)) → (b : Bool) → (x == 10) ≡ b
        → (rest : List ℕ) × (unlines (if b then [] ∷ lines_of xs else onto x (lines_of xs)) ≡ (x ∷ xs) ++ rest)
    go (rest, e) true is = let ten : x ≡ 10 = grind (arith, nat_tests, is) in (rest, ap (λ m. 10 ∷ m) e ∙ ap (λ y. (y ∷ xs) ++ rest) (sym ten))
    go h false is = one_before x xs (lines_of xs) h

-- ---- so many of its lines, each with a newline, are the front of a text that has as many newlines

onto_more : (x : ℕ) (ls : List (List ℕ)) → length ls ≤ length (onto x ls)
onto_more x [] = omega arith
onto_more x (l ∷ ls) = omega arith

few_newlines : (xs : List ℕ) → newlines xs ≤ length (lines_of xs)
few_newlines [] = omega arith
few_newlines (x ∷ xs) = go (few_newlines xs) (x == 10)
  where
    go : newlines xs ≤ length (lines_of xs) → (b : Bool)
        → (if b then suc (newlines xs) else newlines xs) ≤ length (if b then [] ∷ lines_of xs else onto x (lines_of xs))
    go h true = omega (arith, h)
    go h false = omega (arith, h, onto_more x (lines_of xs))

one_begun : (x n : ℕ) (xs : List ℕ) (ls : List (List ℕ)) → suc n ≤ length ls → ((rest : List ℕ) × (xs ≡ unlines (take (suc n) ls) ++ rest))
    → (rest : List ℕ) × ((x ∷ xs) ≡ unlines (take (suc n) (onto x ls)) ++ rest)
one_begun x n xs [] few h = absurd (omega (arith, few))
one_begun x n xs (l ∷ ls) few (rest, e) = (rest, ap (λ m. x ∷ m) e)

begins_so : (n : ℕ) (xs : List ℕ) → n ≤ newlines xs → (rest : List ℕ) × (xs ≡ unlines (take n (lines_of xs)) ++ rest)
begins_so zero xs few = (xs, refl)
begins_so (suc n) [] few = absurd (omega (arith, few))
begins_so (suc n) (x ∷ xs) few = go (begins_so n xs) (begins_so (suc n) xs) (x == 10) refl few
  where
    go : (n ≤ newlines xs → (rest : List ℕ) × (xs ≡ unlines (take n (lines_of xs)) ++ rest))
        → (suc n ≤ newlines xs → (rest : List ℕ) × (xs ≡ unlines (take (suc n) (lines_of xs)) ++ rest))
        → (b : Bool) → (x == 10) ≡ b → suc n ≤ (if b then suc (newlines xs) else newlines xs)
        → (rest : List ℕ) × ((x ∷ xs) ≡ unlines (take (suc n) (if b then [] ∷ lines_of xs else onto x (lines_of xs))) ++ rest)
    go one all true is h =
        let ten : x ≡ 10 = grind (arith, nat_tests, is) in
        let more = one (omega (arith, h)) in
        (more.0, ap (λ y. y ∷ xs) ten ∙ ap (λ m. 10 ∷ m) more.1)
    go one all false is h = one_begun x n xs (lines_of xs) (omega (arith, h, few_newlines xs)) (all h)

-- ---- what a text tells has as many newlines

ended_newlines : (ls : List (List ℕ)) → length ls ≤ newlines (flat_map ended_line ls)
ended_newlines [] = omega arith
ended_newlines (l ∷ ls) =
    let all = newlines_more (ended_line l) (flat_map ended_line ls) in
    let line = newlines_more (traced_line l) (10 ∷ []) in
    let one : newlines (10 ∷ []) ≡ 1 = refl in
    omega (arith, all, line, one, ended_newlines ls)

many_newlines : (xs : List ℕ) → newlines xs ≤ newlines (traced_text xs)
many_newlines xs = go (list_any is_note (lines_of xs))
  where
    go : (b : Bool) → newlines xs ≤ newlines (if b then flat_map ended_line (lines_of xs) else xs)
    go true = omega (arith, few_newlines xs, ended_newlines (lines_of xs))
    go false = omega arith

-- ---- so the front of what a text tells stays the front of it when more comes behind the lines

take_map : (n : ℕ) (ls : List (List ℕ)) → take n (map traced_line ls) ≡ map traced_line (take n ls)
take_map zero ls = refl
take_map (suc n) [] = refl
take_map (suc n) (l ∷ ls) = ap (λ more. traced_line l ∷ more) (take_map n ls)

same_front : (n : ℕ) (text more : List ℕ) → n ≤ newlines text → take n (lines_of (traced_text text)) ≡ take n (lines_of (traced_text (text ++ more)))
same_front n text more many =
    ap (take n) (lines_traced text) ∙ (take_map n (lines_of text) ∙ (ap (map traced_line) (sym (first_lines n text more many))
    ∙ (sym (take_map n (lines_of (text ++ more))) ∙ sym (ap (take n) (lines_traced (text ++ more))))))

both_fronts : (n : ℕ) (all front : List ℕ) → lines_of front ≡ take n (lines_of all) → ((rest : List ℕ) × (unlines (lines_of front) ≡ front ++ rest))
    → ((rest : List ℕ) × (all ≡ unlines (take n (lines_of all)) ++ rest)) → (rest : List ℕ) × (all ≡ front ++ rest)
both_fronts n all front now (a, e) (b, is) = (a ++ b, is ∙ (ap (λ ls. unlines ls ++ b) (sym now) ∙ (ap (λ l. l ++ b) e ∙ append_assoc front a b)))

pub traced_front : (n : ℕ) (text more front : List ℕ) → (more ≡ []) ⊎ (n ≤ newlines text)
    → ((rest : List ℕ) × (traced_text text ≡ front ++ rest)) × (lines_of front ≡ take n (lines_of (traced_text text)))
    → ((rest : List ℕ) × (traced_text (text ++ more) ≡ front ++ rest)) × (lines_of front ≡ take n (lines_of (traced_text (text ++ more))))
traced_front n text more front (inl none) h =
    subst (λ (t : List ℕ). ((rest : List ℕ) × (traced_text t ≡ front ++ rest)) × (lines_of front ≡ take n (lines_of (traced_text t))))
    (sym (append-nil text) ∙ ap (λ l. text ++ l) (sym none)) h
traced_front n text more front (inr many) h =
    let all = traced_text (text ++ more) in
    let now : lines_of front ≡ take n (lines_of all) = h.1 ∙ same_front n text more many in
    let enough : n ≤ newlines all = omega (arith, many, newlines_more text more, many_newlines (text ++ more)) in
    (both_fronts n all front now (is_begun front) (begins_so n all enough), now)
