-- What is read up to a line, and the lines that it has
use Rattle.std.proofs.Common.{◌≡◌, ◌⊎◌, inl, inr, ℕ, zero, suc, ◌+◌, ◌-◌, ◌≤◌, ◌==◌, Bool, true, false, List, [], ◌∷◌, ◌++◌, take, drop, arith, refl}
use Rattle.std.proofs.Common.{sym, ap, ◌∙◌, subst}
use Rattle.std.proofs.Common.{if◌then◌else◌, append_assoc, append-nil, length}
use Rattle.trace_io.specs.Lines.{lines_of, onto}
use Rattle.trace_io.specs.Source.{Stream, Gives, HasEnded, Reads}
use Rattle.trace_io.proofs.LineLemmas.{reads_map, reads_then, nothing_comes}
use Rattle.trace_io.proofs.TextLemmas.{one_read, all_read}
use Rattle.word_pictures.specs.Reading.{IsEnough, newlines}

-- ---- newlines

pub newlines_more : (xs ys : List ℕ) → newlines (xs ++ ys) ≡ newlines xs + newlines ys
newlines_more [] ys = omega arith
newlines_more (x ∷ xs) ys = go (newlines_more xs ys) (x == 10)
  where
    go : newlines (xs ++ ys) ≡ newlines xs + newlines ys → (b : Bool)
        → (if b then suc (newlines (xs ++ ys)) else newlines (xs ++ ys)) ≡ (if b then suc (newlines xs) else newlines xs) + newlines ys
    go rest true = omega (arith, rest)
    go rest false = rest

onto_take : (x n : ℕ) (ls : List (List ℕ)) → onto x (take (suc n) ls) ≡ take (suc n) (onto x ls)
onto_take x zero [] = refl
onto_take x (suc n) [] = refl
onto_take x n (l ∷ ls) = refl

-- what comes behind so many newlines is behind so many lines
pub first_lines : (n : ℕ) (xs more : List ℕ) → n ≤ newlines xs → take n (lines_of (xs ++ more)) ≡ take n (lines_of xs)
first_lines zero xs more few = refl
first_lines (suc n) [] more few = absurd (omega (arith, few))
first_lines (suc n) (x ∷ xs) more few = go (first_lines n xs more) (first_lines (suc n) xs more) (x == 10) few
  where
    go : (n ≤ newlines xs → take n (lines_of (xs ++ more)) ≡ take n (lines_of xs))
        → (suc n ≤ newlines xs → take (suc n) (lines_of (xs ++ more)) ≡ take (suc n) (lines_of xs))
        → (b : Bool) → suc n ≤ (if b then suc (newlines xs) else newlines xs)
        → take (suc n) (if b then [] ∷ lines_of (xs ++ more) else onto x (lines_of (xs ++ more))) ≡ take (suc n) (if b then [] ∷ lines_of xs else onto x (lines_of xs))
    go one all true h = ap (λ l. [] ∷ l) (one (omega (arith, h)))
    go one all false h = sym (onto_take x n (lines_of (xs ++ more))) ∙ (ap (onto x) (all h) ∙ onto_take x n (lines_of xs))

-- ---- reading

-- all was read
pub all_enough : (a b : Stream) (lines : ℕ) (text : List ℕ) → Reads a b (λ input unread. input ≡ text) → HasEnded b → Reads a b (IsEnough lines text)
all_enough a b lines text r h = reads_map _ _ _ _ r (λ xs ys k e.
    let none : ys ≡ [] = nothing_comes _ ys h k in
    record { is = e ∙ (sym (append-nil text) ∙ ap (λ l. text ++ l) (sym none)); enough = inl none })

-- so many lines were read
pub lines_enough : (a b : Stream) (lines left : ℕ) (text : List ℕ) → Reads a b (λ input unread. input ≡ text ++ unread) → lines ≤ newlines text + left → left ≡ 0
    → Reads a b (IsEnough lines text)
lines_enough a b lines left text r most none = reads_map _ _ _ _ r (λ xs ys k e.
    record { is = e; enough = inr (omega (arith, most, none)) })

-- after a chunk fewer are left
pub chunk_counted : (text part more : List ℕ) (lines left now count : ℕ) → lines ≤ newlines text + left → more ≡ text ++ part → count ≡ newlines part
    → now ≡ left - count → lines ≤ newlines more + now
chunk_counted text part more lines left now count most is counted less =
    let all : newlines more ≡ newlines text + newlines part = ap newlines is ∙ newlines_more text part in
    omega (arith, most, all, counted, less)
