-- A text that is read whole, and its lines.
use Rattle.std.proofs.Common.{◌≡◌, ℕ, zero, suc, ◌+◌, ◌<◌, ◌≤◌, List, [], ◌∷◌, ◌++◌, length, take, drop, get_or, arith, refl, sym, ap, ◌∙◌}
use Rattle.std.proofs.Common.{true, false, eqb, append_assoc, append-nil}
use Rattle.std.proofs.lemmas.Bool.{false_from_ne_true}
use Rattle.std.specs.Prelude.{cond}
use Rattle.trace_io.specs.Lines.{lines_of, onto}
use Rattle.trace_io.specs.Source.{Stream, Gives, HasEnded, Reads}
use Rattle.trace_io.proofs.LineLemmas.{reads_then, nothing_comes}

-- one read
given : (b c : Stream) (bs : List ℕ) → Gives b c bs → Reads b c (λ xs ys. xs ≡ bs ++ ys)
given b c bs g = record { bytes = bs; gives = g; holds = λ later k. refl }

-- what was read so far, and then some bytes
pub one_read : (a b c : Stream) (done bs more : List ℕ) → Reads a b (λ xs ys. xs ≡ done ++ ys) → Gives b c bs → more ≡ done ++ bs
    → Reads a c (λ xs ys. xs ≡ more ++ ys)
one_read a b c done bs more r g e =
    reads_then _ _ _ _ _ _ r (given b c bs g)
    (λ xs ys zs k p q. p ∙ ap (λ l. done ++ l) q ∙ (sym (append_assoc done bs zs) ∙ ap (λ l. l ++ zs) (sym e)))

pub any_read : (a b c : Stream) (done bs : List ℕ) → Reads a b (λ xs ys. xs ≡ done ++ ys) → Gives b c bs → Reads a c (λ xs ys. xs ≡ xs)
any_read a b c done bs r g = reads_then _ _ _ _ _ _ r (given b c bs g) (λ xs ys zs k p q. refl)

-- nothing is left
pub all_read : (a b c : Stream) (done bs : List ℕ) → Reads a b (λ xs ys. xs ≡ done ++ ys) → Gives b c bs → bs ≡ [] → HasEnded c
    → Reads a c (λ xs ys. xs ≡ done)
all_read a b c done bs r g n h =
    reads_then _ _ _ _ _ _ r (given b c bs g)
    (λ xs ys zs k p q. p ∙ ap (λ l. done ++ l) (q ∙ (ap (λ l. l ++ zs) n ∙ nothing_comes _ zs h k)) ∙ append-nil done)

-- ---- lines

-- a byte of a line before the rest of it
pub onto_line : (x : ℕ) (xs line : List ℕ) (ls : List (List ℕ)) → eqb x 10 ≡ false → lines_of xs ≡ line ∷ ls → lines_of (x ∷ xs) ≡ (x ∷ line) ∷ ls
onto_line x xs line ls letter rest = ap (λ b. cond b ([] ∷ lines_of xs) (onto x (lines_of xs))) letter ∙ ap (onto x) rest

-- the bytes before the first newline are the first line
pub line_ended : (bs : List ℕ) (n : ℕ) → n < length bs → eqb (get_or bs n 0) 10 ≡ true → ((k : ℕ) → k < n → eqb (get_or bs k 0) 10 ≡ true → ⊥)
    → lines_of bs ≡ take n bs ∷ lines_of (drop (n + 1) bs)
line_ended [] n p e h = absurd (omega arith)
line_ended (x ∷ xs) zero p e h = rw e refl
line_ended (x ∷ xs) (suc n) p e h =
    let s : suc n + 1 ≡ suc (n + 1) = omega arith in
    let rest = line_ended xs n (omega arith) e (λ k lt. h (suc k) (omega arith)) in
    rw s (onto_line x xs _ _ (false_from_ne_true _ (h 0 (omega arith))) rest)

-- bytes without a newline are one line
pub line_last : (bs : List ℕ) → 0 < length bs → ((k : ℕ) → k < length bs → eqb (get_or bs k 0) 10 ≡ true → ⊥) → lines_of bs ≡ bs ∷ []
line_last [] p h = absurd (omega arith)
line_last (x ∷ []) p h = let letter : eqb x 10 ≡ false = false_from_ne_true _ (h 0 (omega arith)) in ap (λ b. cond b ([] ∷ []) ((x ∷ []) ∷ [])) letter
line_last (x ∷ (y ∷ ys)) p h =
    onto_line x (y ∷ ys) _ _ (false_from_ne_true _ (h 0 (omega arith))) (line_last (y ∷ ys) (omega arith) (λ k lt. h (suc k) (omega arith)))

pub lines_none : (bs : List ℕ) → length bs ≡ 0 → lines_of bs ≡ []
lines_none [] p = refl
lines_none (x ∷ xs) p = absurd (omega arith)

-- there are no more lines than bytes
onto_length : (x : ℕ) (ls : List (List ℕ)) → length (onto x ls) ≤ length ls + 1
onto_length x [] = omega arith
onto_length x (l ∷ ls) = omega arith

lines_fewer : (x : ℕ) (xs : List ℕ) → length (lines_of xs) ≤ length xs → length (lines_of (x ∷ xs)) ≤ length (x ∷ xs)
lines_fewer x xs h = let o = onto_length x (lines_of xs) in grind (arith, o, h)

pub few_lines : (xs : List ℕ) → length (lines_of xs) ≤ length xs
few_lines [] = omega arith
few_lines (x ∷ xs) = lines_fewer x xs (few_lines xs)
