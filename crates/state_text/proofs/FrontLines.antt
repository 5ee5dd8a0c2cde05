-- The front of a text that has its first lines
use Rattle.std.proofs.Common.{◌≡◌, ◌≢◌, ℕ, zero, suc, ◌<◌, ◌==◌, Bool, true, false, cond, List, [], ◌∷◌, ◌++◌, length, take, drop, get_or}
use Rattle.std.proofs.Common.{if◌then◌else◌, append-nil, ◌≤◌, refl, sym, ap, ◌∙◌, arith}
use Rattle.std.proofs.lemmas.Bool.Decides.{nat_tests}
use Rattle.std.proofs.lemmas.List.{take-append-drop}
use Rattle.trace_io.specs.Lines.{lines_of, onto}

abbrev pub first : ℕ → List ℕ → List ℕ
first zero xs = []
first (suc n) [] = []
first (suc n) (x ∷ xs) = x ∷ cond (x == 10) (first n xs) (first (suc n) xs)

pub none_first : (n : ℕ) → first n [] ≡ []
none_first zero = refl
none_first (suc n) = refl

onto_take : (x n : ℕ) (ls : List (List ℕ)) → onto x (take (suc n) ls) ≡ take (suc n) (onto x ls)
onto_take x zero [] = refl
onto_take x (suc n) [] = refl
onto_take x n (l ∷ ls) = refl

pub lines_first : (n : ℕ) (xs : List ℕ) → lines_of (first n xs) ≡ take n (lines_of xs)
lines_first zero xs = refl
lines_first (suc n) [] = refl
lines_first (suc n) (x ∷ xs) = go (lines_first n xs) (lines_first (suc n) xs) (x == 10)
  where
    go : lines_of (first n xs) ≡ take n (lines_of xs) → lines_of (first (suc n) xs) ≡ take (suc n) (lines_of xs) → (b : Bool)
        → (if b then [] ∷ lines_of (cond b (first n xs) (first (suc n) xs)) else onto x (lines_of (cond b (first n xs) (first (suc n) xs))))
        ≡ take (suc n) (if b then [] ∷ lines_of xs else onto x (lines_of xs))
    go one all true = ap (λ l. [] ∷ l) one
    go one all false = ap (onto x) all ∙ onto_take x n (lines_of xs)

-- a byte more is taken
pub newline_taken : (xs : List ℕ) (at d n : ℕ) → at < length xs → (get_or xs at d == 10) ≡ true
    → take (suc at) xs ++ first n (drop (suc at) xs) ≡ take at xs ++ first (suc n) (drop at xs)
newline_taken [] at d n lt e = absurd (omega (arith, lt))
newline_taken (x ∷ xs) zero d n lt e = ap (λ b. x ∷ cond b (first n xs) (first (suc n) xs)) (sym e)
newline_taken (x ∷ xs) (suc at) d n lt e = ap (λ l. x ∷ l) (newline_taken xs at d n (omega (arith, lt)) e)

pub letter_taken : (xs : List ℕ) (at d n : ℕ) → at < length xs → (get_or xs at d == 10) ≡ false
    → take (suc at) xs ++ first (suc n) (drop (suc at) xs) ≡ take at xs ++ first (suc n) (drop at xs)
letter_taken [] at d n lt e = absurd (omega (arith, lt))
letter_taken (x ∷ xs) zero d n lt e = ap (λ b. x ∷ cond b (first n xs) (first (suc n) xs)) (sym e)
letter_taken (x ∷ xs) (suc at) d n lt e = ap (λ l. x ∷ l) (letter_taken xs at d n (omega (arith, lt)) e)

pub after_newline : (xs all : List ℕ) (at left now to : ℕ) → to ≡ suc at → left ≡ suc now → at < length xs → get_or xs at 0 ≡ 10
    → take at xs ++ first left (drop at xs) ≡ all → take to xs ++ first now (drop to xs) ≡ all
after_newline xs all at left now to t l lt is same =
    let e : (get_or xs at 0 == 10) ≡ true = grind (arith, nat_tests, is) in
    ap (λ k. take k xs ++ first now (drop k xs)) t ∙ newline_taken xs at 0 now lt e ∙ ap (λ k. take at xs ++ first k (drop at xs)) (sym l) ∙ same

pub after_letter : (xs all : List ℕ) (at left now to n : ℕ) → to ≡ suc at → now ≡ left → left ≡ suc n → at < length xs
    → get_or xs at 0 ≢ 10 → take at xs ++ first left (drop at xs) ≡ all → take to xs ++ first now (drop to xs) ≡ all
after_letter xs all at left now to n t kept l lt isnt same =
    let e : (get_or xs at 0 == 10) ≡ false = grind (arith, nat_tests, isnt) in
    ap (λ k. take k xs ++ first now (drop k xs)) t ∙ ap (λ k. take (suc at) xs ++ first k (drop (suc at) xs)) (kept ∙ l)
    ∙ letter_taken xs at 0 n lt e ∙ ap (λ k. take at xs ++ first k (drop at xs)) (sym l) ∙ same

-- ---- at the end

drop_all : (xs : List ℕ) (at : ℕ) → length xs ≤ at → drop at xs ≡ []
drop_all [] zero le = refl
drop_all [] (suc at) le = refl
drop_all (x ∷ xs) zero le = absurd (omega (arith, le))
drop_all (x ∷ xs) (suc at) le = drop_all xs at (omega (arith, le))

pub no_line_left : (xs all : List ℕ) (at left : ℕ) → left ≡ 0 → take at xs ++ first left (drop at xs) ≡ all → take at xs ≡ all
no_line_left xs all at left e same =
    sym (append-nil (take at xs)) ∙ ap (λ k. take at xs ++ first k (drop at xs)) (sym e) ∙ same

pub no_byte_left : (xs all : List ℕ) (at left : ℕ) → length xs ≤ at → take at xs ++ first left (drop at xs) ≡ all → take at xs ≡ all
no_byte_left xs all at left le same =
    sym (append-nil (take at xs)) ∙ ap (λ l. take at xs ++ l) (sym (ap (first left) (drop_all xs at le) ∙ none_first left)) ∙ same

pub is_front : (xs front : List ℕ) (at lines : ℕ) → front ≡ take at xs → take at xs ≡ first lines xs
    → ((rest : List ℕ) × (xs ≡ front ++ rest)) × (lines_of front ≡ take lines (lines_of xs))
is_front xs front at lines is all = (
  (drop at xs, sym (take-append-drop at xs) ∙ ap (λ l. l ++ drop at xs) (sym is)),
  ap lines_of (is ∙ all) ∙ lines_first lines xs,
)
