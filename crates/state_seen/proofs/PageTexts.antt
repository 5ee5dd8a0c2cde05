-- The lines of a list whose pages rise are those of all pages, one after another.
use Rattle.std.proofs.Common.{◌≡◌, ◌≢◌, ℕ, zero, suc, ◌+◌, add-one, ◌<◌, ◌≤◌, ◌==◌, Bool, true, false, List, [], ◌∷◌, ◌++◌, Option, None, Some, refl, sym}
use Rattle.std.proofs.Common.{ap, ◌∙◌, arith, append_assoc, append-nil, if◌then◌else◌}
use Rattle.std.specs.List.{flat_map}
use Rattle.std.proofs.lemmas.Bool.Decides.{nat_tests}
use Rattle.state_seen.specs.declared.list.OfPage.{OfPage}
use Rattle.state_seen.specs.Lists.{IsAbove, at_page, page_limit}
use Rattle.state_seen.specs.PageTexts.{line_if, pages_text, texts_below}
use Rattle.state_seen.proofs.Ordered.{none_below}

pub empty_below : (f : ℕ → List ℕ) (n : ℕ) → ((k : ℕ) → k < n → f k ≡ []) → texts_below f n ≡ []
unfolding texts_below
empty_below f zero none = refl
empty_below f (suc n) none =
    ap (λ l. l ++ f n) (empty_below f n (λ k lt. none k (omega (arith, lt)))) ∙ none n (omega arith)

-- where one text more stands at k, and nothing before it
one_more : (f g : ℕ → List ℕ) (k n : ℕ) (l : List ℕ) → k < n → ((j : ℕ) → j < k → f j ≡ []) → f k ≡ l → ((j : ℕ) → j ≤ k → g j ≡ [])
    → ((j : ℕ) → k < j → f j ≡ g j) → texts_below f n ≡ l ++ texts_below g n
unfolding texts_below
one_more f g k zero l lt before at none after = absurd (omega (arith, lt))
one_more f g k (suc n) l lt before at none after = go (λ less. one_more f g k n l less before at none after) (k == n) refl
  where
    go : (k < n → texts_below f n ≡ l ++ texts_below g n) → (b : Bool) → (k == n) ≡ b → texts_below f n ++ f n ≡ l ++ (texts_below g n ++ g n)
    go rest true is =
        let same : k ≡ n = grind (arith, nat_tests) in
        ap (λ t. t ++ f n) (empty_below f n (λ j less. before j (omega (arith, same, less)))) ∙ ap f (sym same) ∙ at ∙ sym (append-nil l)
        ∙ ap (λ t. l ++ t) (sym (ap (λ t. t ++ g n) (empty_below g n (λ j less. none j (omega (arith, same, less)))) ∙ none n (omega (arith, same))))
    go rest false is =
        let other : k ≢ n = grind (arith, nat_tests) in
        ap (λ t. t ++ f n) (rest (omega (arith, lt, other)))
        ∙ ap (λ t. (l ++ texts_below g n) ++ t) (after n (omega (arith, lt, other))) ∙ append_assoc l (texts_below g n) (g n)

-- the same texts
pub texts_same : (f g : ℕ → List ℕ) (n : ℕ) → ((c : ℕ) → c < n → f c ≡ g c) → texts_below f n ≡ texts_below g n
unfolding texts_below
texts_same f g zero same = refl
texts_same f g (suc n) same =
    ap (λ l. l ++ f n) (texts_same f g n (λ c lt. same c (omega (arith, lt)))) ∙ ap (λ l. texts_below g n ++ l) (same n (omega arith))

pub pages_same : {V : Type 0} (line : ℕ → V → List ℕ) (t u : ℕ → Option V) → ((p : ℕ) → t p ≡ u p) → pages_text line t ≡ pages_text line u
pages_same line t u same = texts_same (λ p. line_if line p (t p)) (λ p. line_if line p (u p)) page_limit (λ p lt. ap (line_if line p) (same p))

abbrev of_page : {V : Type 0} → (ℕ → V → List ℕ) → List (OfPage V) → ℕ → List ℕ
of_page line es p = line_if line p (at_page es p)

absent : {V : Type 0} (line : ℕ → V → List ℕ) (es : List (OfPage V)) (p : ℕ) → at_page es p ≡ None → of_page line es p ≡ []
absent line es p e = ap (line_if line p) e

first_one : {V : Type 0} (line : ℕ → V → List ℕ) (e : OfPage V) (es : List (OfPage V)) → of_page line (e ∷ es) e.page ≡ line e.page e.value
first_one line e es = go (e.page == e.page) refl
  where
    go : (b : Bool) → (e.page == e.page) ≡ b → line_if line e.page (if b then Some e.value else at_page es e.page) ≡ line e.page e.value
    go true is = refl
    go false is = absurd (grind (arith, nat_tests))

another : {V : Type 0} (line : ℕ → V → List ℕ) (e : OfPage V) (es : List (OfPage V)) (p : ℕ) → e.page < p → of_page line (e ∷ es) p ≡ of_page line es p
another line e es p lt = go (e.page == p) refl
  where
    go : (b : Bool) → (e.page == p) ≡ b → line_if line p (if b then Some e.value else at_page es p) ≡ of_page line es p
    go true is = absurd (let same : e.page ≡ p = grind (arith, nat_tests) in omega (arith, same, lt))
    go false is = refl

pub listed : {V : Type 0} (line : ℕ → V → List ℕ) (n : ℕ) (es : List (OfPage V)) → IsAbove n es
    → flat_map (λ (e : OfPage V). line e.page e.value) es ≡ pages_text line (at_page es)
listed line n [] h = sym (empty_below (of_page line []) page_limit (λ k lt. refl))
listed line n (e ∷ es) (low, high, rest) =
    ap (λ l. line e.page e.value ++ l) (listed line (suc e.page) es rest)
    ∙ sym (one_more (of_page line (e ∷ es)) (of_page line es) e.page page_limit (line e.page e.value) high
    (λ j lt. absent line (e ∷ es) j (none_below e.page (e ∷ es) j (omega arith, high, rest) lt)) (first_one line e es)
    (λ j le. absent line es j (none_below (suc e.page) es j rest (omega (arith, le)))) (λ j lt. another line e es j lt))

-- ---- texts that grow, one number after another

pub texts_none : (text : ℕ → List ℕ) → texts_below text 0 ≡ []
unfolding texts_below
texts_none text = refl

texts_next : (text : ℕ → List ℕ) (n : ℕ) → texts_below text (n + 1) ≡ texts_below text n ++ text n
unfolding texts_below
texts_next text n = rw add-one refl

pub texts_more : (text : ℕ → List ℕ) (n : ℕ) (old now next : List ℕ) → now ≡ old ++ texts_below text n → next ≡ now ++ text n
    → next ≡ old ++ texts_below text (n + 1)
texts_more text n old now next e f =
    f ∙ ap (λ l. l ++ text n) e ∙ append_assoc old (texts_below text n) (text n) ∙ ap (λ l. old ++ l) (sym (texts_next text n))
