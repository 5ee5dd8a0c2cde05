-- Words, from the spaces before them and after them.
use Rattle.std.proofs.Common.{◌≡◌, ◌≢◌, ℕ, zero, suc, ◌<◌, ◌≤◌, List, [], ◌∷◌, ◌++◌, length, take, drop, get_or, arith, refl}
use Rattle.std.proofs.Common.{length-drop, add-zero, sym, ap, ◌∙◌, eq-eqb, true, false, Bool, eqb, Some, None}
use Rattle.std.proofs.lemmas.Bool.{and_parts, cond-false, cond-true, ne_eqb, not-true}
use Rattle.std.proofs.lemmas.List.{get_or-drop}
use Rattle.std.specs.Prelude.{not, cond}
use Rattle.std.specs.List.{list_all}
use Rattle.trace_io.specs.Lines.{onto}
use Rattle.trace_text.specs.Words.{Word, words_of, begins_word, front_word}

above_zero : (m : ℕ) → (m ≡ 0 → ⊥) → 0 < m
above_zero zero f = absurd (f refl)
above_zero (suc m) f = omega arith

-- spaces at the front are no part of a word
pub words-skip : (bs : List ℕ) (n : ℕ) → n ≤ length bs → ((k : ℕ) → k < n → get_or bs k 0 ≡ 32) → words_of (drop n bs) ≡ words_of bs
words-skip bs zero p h = refl
words-skip [] (suc n) p h = absurd (omega arith)
words-skip (x ∷ xs) (suc n) p h =
    let space : eqb x 32 ≡ true = eq-eqb x 32 (h 0 (omega arith)) in
    rw space (words-skip xs n (omega arith) (λ k lt. h (suc k) (omega arith)))

-- a byte of a word before more of that word
onto_first : (x y : ℕ) (ys : List ℕ) (n : ℕ) → eqb x 32 ≡ false → eqb y 32 ≡ false → words_of (y ∷ ys) ≡ (y ∷ take n ys) ∷ words_of (drop n ys)
    → words_of (x ∷ (y ∷ ys)) ≡ (x ∷ (y ∷ take n ys)) ∷ words_of (drop n ys)
onto_first x y ys n letter next rest =
    let begins : begins_word (y ∷ ys) ≡ true = ap not next in
    cond-false _ _ _ letter ∙ cond-true _ _ _ begins ∙ ap (onto x) rest

-- the bytes before the first space are the first word
pub words-front : (bs : List ℕ) (n : ℕ) → 0 < n → n ≤ length bs → ((k : ℕ) → k < n → get_or bs k 0 ≢ 32) → (n < length bs → get_or bs n 0 ≡ 32)
    → words_of bs ≡ take n bs ∷ words_of (drop n bs)
words-front bs zero q p h s = absurd (omega arith)
words-front [] (suc n) q p h s = absurd (omega arith)
words-front (x ∷ []) (suc zero) q p h s =
    let letter : eqb x 32 ≡ false = ne_eqb x 32 (h 0 (omega arith)) in rw letter refl
words-front (x ∷ (y ∷ ys)) (suc zero) q p h s =
    let letter : eqb x 32 ≡ false = ne_eqb x 32 (h 0 (omega arith)) in
    let space : eqb y 32 ≡ true = eq-eqb y 32 (s (omega arith)) in
    rw (letter, space) refl
words-front (x ∷ []) (suc (suc n)) q p h s = absurd (omega arith)
words-front (x ∷ (y ∷ ys)) (suc (suc n)) q p h s =
    let letter : eqb x 32 ≡ false = ne_eqb x 32 (h 0 (omega arith)) in
    let next : eqb y 32 ≡ false = ne_eqb y 32 (h 1 (omega arith)) in
    let rest : words_of (y ∷ ys) ≡ take (suc n) (y ∷ ys) ∷ words_of (drop (suc n) (y ∷ ys)) = words-front (y ∷ ys) (suc n) (omega arith)
    (omega arith) (λ k lt. h (suc k) (omega arith)) (λ lt. s (omega arith)) in
    onto_first x y ys n letter next rest

-- nothing but spaces
pub word_none : (bs rest : List ℕ) (n : ℕ) → n ≤ length bs → ((k : ℕ) → k < n → get_or bs k 0 ≡ 32) → rest ≡ drop n bs → length rest ≡ 0
    → front_word (words_of bs) ≡ None
word_none bs [] n p h e z = rw (← words-skip bs n p h, ← e) refl
word_none bs (x ∷ xs) n p h e z = absurd (omega arith)

pub word_some : (bs rest : List ℕ) (n m : ℕ) → n ≤ length bs → ((k : ℕ) → k < n → get_or bs k 0 ≡ 32)
    → (n < length bs → get_or bs n 0 ≢ 32) → rest ≡ drop n bs → 0 < length rest
    → m ≤ length rest → ((k : ℕ) → k < m → get_or rest k 0 ≢ 32) → (m < length rest → get_or rest m 0 ≡ 32)
    → front_word (words_of bs) ≡ Some (take m rest, words_of (drop m rest))
word_some bs rest n m p h s e q r g t =
    let more : n < length bs = omega (arith, length-drop n bs, ap length e) in
    let first : get_or rest 0 0 ≡ get_or bs n 0 = ap (λ l. get_or l 0 0) e ∙ get_or-drop n bs 0 0 ∙ ap (λ k. get_or bs k 0) (add-zero n) in
    let some : 0 < m = above_zero m (λ z. s more (sym first ∙ ap (λ k. get_or rest k 0) (sym z) ∙ t (omega arith))) in
    ap front_word (sym (words-skip bs n p h) ∙ ap words_of (sym e) ∙ words-front rest m some r g t)

-- ---- words, a byte at a time

pub at_space : (x : ℕ) (xs : List ℕ) → eqb x 32 ≡ true → words_of (x ∷ xs) ≡ words_of xs
at_space x xs e = ap (λ b. cond b (words_of xs) (cond (begins_word xs) (onto x (words_of xs)) ((x ∷ []) ∷ words_of xs))) e

pub at_end : (x : ℕ) (xs : List ℕ) → eqb x 32 ≡ false → begins_word xs ≡ false → words_of (x ∷ xs) ≡ (x ∷ []) ∷ words_of xs
at_end x xs e f =
    ap (λ b. cond b (words_of xs) (cond (begins_word xs) (onto x (words_of xs)) ((x ∷ []) ∷ words_of xs))) e
    ∙ ap (λ b. cond b (onto x (words_of xs)) ((x ∷ []) ∷ words_of xs)) f

pub at_more : (x : ℕ) (xs : List ℕ) → eqb x 32 ≡ false → begins_word xs ≡ true → words_of (x ∷ xs) ≡ onto x (words_of xs)
at_more x xs e f =
    ap (λ b. cond b (words_of xs) (cond (begins_word xs) (onto x (words_of xs)) ((x ∷ []) ∷ words_of xs))) e
    ∙ ap (λ b. cond b (onto x (words_of xs)) ((x ∷ []) ∷ words_of xs)) f

onto_begun : (x : ℕ) (ls : List Word) → (v : Word) × (vs : List Word) × (onto x ls ≡ (x ∷ v) ∷ vs)
onto_begun x [] = ([], [], refl)
onto_begun x (l ∷ ls) = (l, ls, refl)

-- the first byte of a word is in the first word
pub begun : (xs : List ℕ) → begins_word xs ≡ true → (y : ℕ) × (v : Word) × (vs : List Word) × (words_of xs ≡ (y ∷ v) ∷ vs)
begun [] e = absurd (cc)
begun (x ∷ xs) e = go (begins_word xs) refl
  where
    letter : eqb x 32 ≡ false
    letter = not-true (eqb x 32) e

    go : (b : Bool) → begins_word xs ≡ b → (y : ℕ) × (v : Word) × (vs : List Word) × (words_of (x ∷ xs) ≡ (y ∷ v) ∷ vs)
    go true f = let (v, vs, is) = onto_begun x (words_of xs) in (x, v, vs, at_more x xs letter f ∙ is)
    go false f = (x, [], words_of xs, at_end x xs letter f)

onto_join : (x : ℕ) (vs us : List Word) (v : Word) (ws : List Word) → vs ≡ v ∷ ws → onto x (vs ++ us) ≡ onto x vs ++ us
onto_join x vs us v ws e = ap (λ l. onto x (l ++ us)) e ∙ ap (λ l. onto x l ++ us) (sym e)

-- a space divides words
pub words_join : (xs ys : List ℕ) → words_of (xs ++ 32 ∷ ys) ≡ words_of xs ++ words_of ys
words_join [] ys = refl
words_join (x ∷ xs) ys = go (words_join xs ys) (eqb x 32) (begins_word xs) refl refl
  where
    same : (xs : List ℕ) → begins_word (xs ++ 32 ∷ ys) ≡ begins_word xs
    same [] = refl
    same (z ∷ zs) = refl

    go : words_of (xs ++ 32 ∷ ys) ≡ words_of xs ++ words_of ys → (b c : Bool) → eqb x 32 ≡ b → begins_word xs ≡ c
        → words_of (x ∷ (xs ++ 32 ∷ ys)) ≡ words_of (x ∷ xs) ++ words_of ys
    go h true c e f = at_space x (xs ++ 32 ∷ ys) e ∙ h ∙ ap (λ l. l ++ words_of ys) (sym (at_space x xs e))
    go h false false e f =
        at_end x (xs ++ 32 ∷ ys) e (same xs ∙ f) ∙ ap (λ l. (x ∷ []) ∷ l) h ∙ ap (λ l. l ++ words_of ys) (sym (at_end x xs e f))
    go h false true e f =
        let (y, v, vs, is) = begun xs f in
        at_more x (xs ++ 32 ∷ ys) e (same xs ∙ f) ∙ ap (onto x) h
        ∙ onto_join x (words_of xs) (words_of ys) (y ∷ v) vs is ∙ ap (λ l. l ++ words_of ys) (sym (at_more x xs e f))

-- the bytes are one word
abbrev pub IsWord : Word → Type 0
IsWord w = words_of w ≡ w ∷ []

abbrev pub unspaced : ℕ → Bool
unspaced c = not (eqb c 32)

-- bytes of which none is a space are one word
pub one_word : (x : ℕ) (xs : Word) → list_all unspaced (x ∷ xs) ≡ true → IsWord (x ∷ xs)
one_word x [] h = at_end x [] (not-true (eqb x 32) (and_parts (unspaced x) true h).0) refl
one_word x (y ∷ ys) h =
    let parts = and_parts (unspaced x) (list_all unspaced (y ∷ ys)) h in
    let next = and_parts (unspaced y) (list_all unspaced ys) parts.1 in
    at_more x (y ∷ ys) (not-true (eqb x 32) parts.0) next.0 ∙ ap (onto x) (one_word y ys parts.1)
