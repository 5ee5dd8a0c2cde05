-- Words on both sides of a sign.
use Rattle.machine_model.proofs.Words.{◌≡◌, ◌≢◌, ℕ, ◌+◌, Bool, true, false, not, eqb, List, [], ◌∷◌, ◌++◌, codes, arith, refl, sym, ap, ◌∙◌, nat_tests}
use Rattle.std.proofs.lemmas.Bool.{not-true}
use Rattle.trace_io.specs.Lines.{onto}
use Rattle.trace_text.specs.Words.{Word, words_of, begins_word}
use Rattle.trace_text.proofs.WordLemmas.{at_end, at_more, at_space, begun}

-- ---- where the sign stands

pub record SplitsAt (bytes : List ℕ) (es os : List Word) : Type 0 where
  pub front : List ℕ
  pub behind : List ℕ
  pub is : bytes ≡ front ++ 32 ∷ 61 ∷ behind
  pub before : words_of front ≡ es
  pub after : words_of behind ≡ os
  pub edge : begins_word behind ≡ false
  pub begins : begins_word front ≡ begins_word bytes

-- the sign is the first word
sign_first : (z : ℕ) (zs : List ℕ) (os : List Word) → eqb z 32 ≡ false → words_of (z ∷ zs) ≡ codes "=" ∷ os
    → (z ≡ 61) × (begins_word zs ≡ false) × (words_of zs ≡ os)
sign_first z zs os e w = go (begins_word zs) refl
  where
    go : (b : Bool) → begins_word zs ≡ b → (z ≡ 61) × (begins_word zs ≡ false) × (words_of zs ≡ os)
    go false f = let same : (z ∷ []) ∷ words_of zs ≡ (61 ∷ []) ∷ os = sym (at_end z zs e f) ∙ w in (cc, f, cc)
    go true f =
        let (y, v, vs, is) = begun zs f in
        let same : (z ∷ y ∷ v) ∷ vs ≡ (61 ∷ []) ∷ os = sym (at_more z zs e f ∙ ap (onto z) is) ∙ w in absurd (cc)

Others : List ℕ → List Word → Type 0
Others xs os = (es : List Word) → words_of xs ≡ es ++ codes "=" ∷ os → (es ≡ [] → begins_word xs ≡ false) → SplitsAt xs es os

-- the space before this sign
split_here : (x : ℕ) (zs : List ℕ) (os : List Word) → eqb x 32 ≡ true → begins_word zs ≡ true → words_of zs ≡ codes "=" ∷ os → SplitsAt (x ∷ zs) [] os
split_here x [] os s b v = absurd (cc)
split_here x (z ∷ zs) os s b v =
    let letter : eqb z 32 ≡ false = not-true (eqb z 32) b in
    let (sign, edge, rest) = sign_first z zs os letter v in
    let space : x ≡ 32 = grind (arith, nat_tests, s) in
    record {
      front = [];
      behind = zs;
      is = ap (λ c. c ∷ z ∷ zs) space ∙ ap (λ c. 32 ∷ c ∷ zs) sign;
      before = refl;
      after = rest;
      edge = edge;
      begins = sym (ap not s);
    }

split_spaced : (x : ℕ) (xs : List ℕ) (es os : List Word) → eqb x 32 ≡ true → SplitsAt xs es os → SplitsAt (x ∷ xs) es os
split_spaced x xs es os s h = record {
  front = x ∷ h.front;
  behind = h.behind;
  is = ap (λ l. x ∷ l) h.is;
  before = at_space x h.front s ∙ h.before;
  after = h.after;
  edge = h.edge;
  begins = refl;
}

split_space : (x : ℕ) (xs : List ℕ) (es os : List Word) → Others xs os → eqb x 32 ≡ true → words_of xs ≡ es ++ codes "=" ∷ os → (b : Bool)
    → begins_word xs ≡ b → SplitsAt (x ∷ xs) es os
unfolding Others
split_space x xs [] os f s v true b = split_here x xs os s b v
split_space x xs [] os f s v false b = split_spaced x xs [] os s (f [] v (λ e. b))
split_space x xs (e ∷ es) os f s v b c = split_spaced x xs (e ∷ es) os s (f (e ∷ es) v (λ e. absurd (cc)))

split_end : (x : ℕ) (xs : List ℕ) (es os : List Word) → Others xs os → eqb x 32 ≡ false → begins_word xs ≡ false
    → (x ∷ []) ∷ words_of xs ≡ es ++ codes "=" ∷ os → es ≢ [] → SplitsAt (x ∷ xs) es os
unfolding Others
split_end x xs [] os f s b v some = absurd (some refl)
split_end x xs (e ∷ es) os f s b v some =
    let word : x ∷ [] ≡ e = cc in
    let rest : words_of xs ≡ es ++ codes "=" ∷ os = cc in
    let h = f es rest (λ e. b) in
    record {
      front = x ∷ h.front;
      behind = h.behind;
      is = ap (λ l. x ∷ l) h.is;
      before = at_end x h.front s (h.begins ∙ b) ∙ ap (λ w. w ∷ words_of h.front) word ∙ ap (λ l. e ∷ l) h.before;
      after = h.after;
      edge = h.edge;
      begins = refl;
    }

split_longer : (x : ℕ) (xs : List ℕ) (es os : List Word) (y : ℕ) (v : Word) (vs : List Word) → Others xs os → eqb x 32 ≡ false
    → begins_word xs ≡ true → words_of xs ≡ (y ∷ v) ∷ vs → (x ∷ y ∷ v) ∷ vs ≡ es ++ codes "=" ∷ os → es ≢ [] → SplitsAt (x ∷ xs) es os
unfolding Others
split_longer x xs [] os y v vs f s b is w some = absurd (some refl)
split_longer x xs (e ∷ es) os y v vs f s b is w some =
    let word : x ∷ y ∷ v ≡ e = cc in
    let rest : vs ≡ es ++ codes "=" ∷ os = cc in
    let h = f ((y ∷ v) ∷ es) (is ∙ ap (λ l. (y ∷ v) ∷ l) rest) (λ e. absurd (cc)) in
    record {
      front = x ∷ h.front;
      behind = h.behind;
      is = ap (λ l. x ∷ l) h.is;
      before = at_more x h.front s (h.begins ∙ b) ∙ ap (onto x) h.before ∙ ap (λ w. w ∷ es) word;
      after = h.after;
      edge = h.edge;
      begins = refl;
    }

split_more : (x : ℕ) (xs : List ℕ) (es os : List Word) → Others xs os → words_of (x ∷ xs) ≡ es ++ codes "=" ∷ os → (es ≡ [] → begins_word (x ∷ xs) ≡ false)
    → (a b : Bool) → eqb x 32 ≡ a → begins_word xs ≡ b → SplitsAt (x ∷ xs) es os
split_more x xs es os f w n true b s g = split_space x xs es os f s (sym (at_space x xs s) ∙ w) b g
split_more x xs es os f w n false false s g =
    split_end x xs es os f s g (sym (at_end x xs s g) ∙ w) (λ e. let no = n e in let yes : begins_word (x ∷ xs) ≡ true = ap not s in cc)
split_more x xs es os f w n false true s g =
    let (y, v, vs, is) = begun xs g in
    split_longer x xs es os y v vs f s g is (sym (at_more x xs s g ∙ ap (onto x) is) ∙ w)
    (λ e. let no = n e in let yes : begins_word (x ∷ xs) ≡ true = ap not s in cc)

pub splits : (bytes : List ℕ) (es os : List Word) → words_of bytes ≡ es ++ codes "=" ∷ os → (es ≡ [] → begins_word bytes ≡ false) → SplitsAt bytes es os
unfolding Others
splits [] [] os w n = absurd (cc)
splits [] (e ∷ es) os w n = absurd (cc)
splits (x ∷ xs) es os w n = split_more x xs es os (λ fs. splits xs fs os) w n (eqb x 32) (begins_word xs) refl refl
