-- Entries whose pages rise
use Rattle.std.proofs.Common.{◌≡◌, ◌≢◌, ℕ, ◌+◌, zero, suc, ◌<◌, ◌≤◌, ◌==◌, ◌&&◌, Bool, true, false, cond, not, List, [], ◌∷◌, ◌++◌, length, take}
use Rattle.std.proofs.Common.{drop, filter, get_or, subst, Option, None, Some, refl, sym, ap, ◌∙◌, arith, if◌then◌else◌, nat_lt}
use Rattle.std.proofs.lemmas.Bool.Decides.{nat_tests}
use Rattle.vm_base.specs.Functions.{over, put}
use Rattle.state_seen.specs.declared.list.OfPage.{OfPage}
use Rattle.state_seen.specs.Lists.{IsAbove, at_page, is_there, page_in, page_limit}

abbrev entry : {V : Type 0} → ℕ → V → OfPage V
entry p t = record { page = p; value = t }

-- without the pages of a set
abbrev pub without : {V : Type 0} → (ℕ → Bool) → List (OfPage V) → List (OfPage V)
without {V} s es = filter (λ (e : OfPage V). not (s e.page)) es

pub lower : {V : Type 0} (m n : ℕ) (es : List (OfPage V)) → m ≤ n → IsAbove n es → IsAbove m es
lower m n [] le h = h
lower m n (e ∷ es) le (low, high, rest) = (omega (arith, le, low), high, rest)

-- the pages from a place on
above_at : {V : Type 0} (n : ℕ) (es : List (OfPage V)) (k : ℕ) → IsAbove n es → k < length es → n ≤ page_in es k
above_at n [] k h lt = absurd (omega (arith, lt))
above_at n (e ∷ es) zero h lt = h.0
above_at n (e ∷ es) (suc k) (low, high, rest) lt = let at = above_at (suc e.page) es k rest (omega (arith, lt)) in omega (arith, low, at)

pub rising : {V : Type 0} (n : ℕ) (es : List (OfPage V)) (i j : ℕ) → IsAbove n es → i < j → j < length es → page_in es i < page_in es j
rising n [] i j h lt in_list = absurd (omega (arith, in_list))
rising n (e ∷ es) i zero h lt in_list = absurd (omega (arith, lt))
rising n (e ∷ es) zero (suc j) h lt in_list = let at = above_at (suc e.page) es j h.2 (omega (arith, in_list)) in omega (arith, at)
rising n (e ∷ es) (suc i) (suc j) h lt in_list = rising (suc e.page) es i j h.2 (omega (arith, lt)) (omega (arith, in_list))

-- ---- what is looked up

pub none_below : {V : Type 0} (n : ℕ) (es : List (OfPage V)) (p : ℕ) → IsAbove n es → p < n → at_page es p ≡ None
none_below n [] p h lt = refl
none_below n (e ∷ es) p (low, high, rest) lt = go (none_below (suc e.page) es p rest (omega (arith, low, lt))) (e.page == p) refl
  where
    go : at_page es p ≡ None → (b : Bool) → (e.page == p) ≡ b → (if b then Some e.value else at_page es p) ≡ None
    go none true is = absurd (let same : e.page ≡ p = grind (arith, nat_tests) in omega (arith, same, low, lt))
    go none false is = none

-- ---- without some pages

pub without_above : {V : Type 0} (s : ℕ → Bool) (n : ℕ) (es : List (OfPage V)) → IsAbove n es → IsAbove n (without s es)
without_above s n [] h = h
without_above s n (e ∷ es) (low, high, rest) = go (without_above s (suc e.page) es rest) (s e.page)
  where
    go : IsAbove (suc e.page) (without s es) → (b : Bool) → IsAbove n (if not b then e ∷ without s es else without s es)
    go kept true = lower n (suc e.page) (without s es) (omega (arith, low)) kept
    go kept false = (low, high, kept)

pub without_at : {V : Type 0} (s : ℕ → Bool) (es : List (OfPage V)) (q : ℕ) → at_page (without s es) q ≡ over (at_page es) s None q
without_at {V} s [] q = go (s q)
  where
    go : (b : Bool) → ◌≡◌ {A = Option V} None (cond b None None)
    go true = refl
    go false = refl
without_at s (e ∷ es) q = go (without_at s es q) (s e.page) refl (e.page == q) refl
  where
    go : at_page (without s es) q ≡ over (at_page es) s None q → (b : Bool) → s e.page ≡ b → (d : Bool) → (e.page == q) ≡ d
        → at_page (if not b then e ∷ without s es else without s es) q ≡ cond (s q) None (if d then Some e.value else at_page es q)
    go rest true is true at = let same : e.page ≡ q = grind (arith, nat_tests) in
        rest ∙ ap (λ c. cond c None (at_page es q)) (sym (ap s same) ∙ is) ∙ sym (ap (λ c. cond c None (Some e.value)) (sym (ap s same) ∙ is))
    go rest true is false at = rest
    go rest false is true at = let same : e.page ≡ q = grind (arith, nat_tests) in
        ap (λ c. if c then Some e.value else at_page (without s es) q) at
        ∙ sym (ap (λ c. cond c None (Some e.value)) (sym (ap s same) ∙ is))
    go rest false is false at = ap (λ c. if c then Some e.value else at_page (without s es) q) at ∙ rest

-- what is put twice at a place
pub put_again : {V : Type 0} (f g : ℕ → Option V) (p : ℕ) (o x : Option V) → ((q : ℕ) → g q ≡ put f p o q) → (q : ℕ)
    → put g p x q ≡ put f p x q
put_again f g p o x same q = go (q == p) refl
  where
    go : (b : Bool) → (q == p) ≡ b → cond b x (g q) ≡ cond b x (f q)
    go true is = refl
    go false is = same q ∙ ap (λ c. cond c o (f q)) is

-- ---- without the one at a place

-- of a page that is not at the first place of its own or of a higher one there is none
pub absent : {V : Type 0} (n : ℕ) (es : List (OfPage V)) (k p : ℕ) → IsAbove n es → ((i : ℕ) → i < k → page_in es i < p)
    → ((i : ℕ) → k ≤ i → i < length es → p ≤ page_in es i) → is_there es k p ≡ false → at_page es p ≡ None
absent n [] k p h below above out = refl
absent n (e ∷ es) zero p (low, high, rest) below above out =
    let first = above 0 (omega arith) (omega arith) in
    let other : (e.page == p) ≡ false = ap (λ b. b && e.page == p) (sym (first_of es)) ∙ out in
    let ne : e.page ≢ p = grind (arith, nat_tests, other) in
    ap (λ c. if c then Some e.value else at_page es p) other ∙ none_below (suc e.page) es p rest (omega (arith, first, ne))
  where
    first_of : {V : Type 0} (xs : List V) → nat_lt 0 (suc (length xs)) ≡ true
    first_of xs = grind (arith, nat_tests)
absent n (e ∷ es) (suc k) p (low, high, rest) below above out =
    let first = below 0 (omega arith) in
    let other : (e.page == p) ≡ false = grind (arith, nat_tests, first) in
    ap (λ c. if c then Some e.value else at_page es p) other
    ∙ absent (suc e.page) es k p rest (λ i lt. below (suc i) (omega (arith, lt))) (λ i le lt. above (suc i) (omega (arith, le)) (omega (arith, lt)))
    (ap (λ b. b && page_in es k == p) (less k (length es)) ∙ out)
  where
    less : (a b : ℕ) → nat_lt a b ≡ nat_lt (suc a) (suc b)
    less a b = grind (arith, nat_tests)

pub removed_above : {V : Type 0} (n : ℕ) (es : List (OfPage V)) (k : ℕ) → IsAbove n es → IsAbove n (take k es ++ drop (suc k) es)
removed_above n [] zero h = h
removed_above n [] (suc k) h = h
removed_above n (e ∷ es) zero (low, high, rest) = lower n (suc e.page) es (omega (arith, low)) rest
removed_above n (e ∷ es) (suc k) (low, high, rest) = (low, high, removed_above (suc e.page) es k rest)

pub removed_at : {V : Type 0} (n : ℕ) (es : List (OfPage V)) (k p : ℕ) → IsAbove n es → k < length es → page_in es k ≡ p → (q : ℕ)
    → at_page (take k es ++ drop (suc k) es) q ≡ put (at_page es) p None q
removed_at n [] k p h lt is q = absurd (omega (arith, lt))
removed_at n (e ∷ es) zero p (low, high, rest) lt is q = go (e.page == q) refl (q == p) refl
  where
    go : (b : Bool) → (e.page == q) ≡ b → (d : Bool) → (q == p) ≡ d → at_page es q ≡ cond d None (if b then Some e.value else at_page es q)
    go true i true j = let same : e.page ≡ q = grind (arith, nat_tests, i) in none_below (suc e.page) es q rest (omega (arith, same))
    go false i false j = refl
    go true i false j = absurd (grind (arith, nat_tests))
    go false i true j = absurd (grind (arith, nat_tests))
removed_at n (e ∷ es) (suc k) p (low, high, rest) lt is q =
    go (removed_at (suc e.page) es k p rest (omega (arith, lt)) is q) (e.page == q) refl (q == p) refl
  where
    higher : suc e.page ≤ p
    higher = subst (λ x. suc e.page ≤ x) is (above_at (suc e.page) es k rest (omega (arith, lt)))

    go : at_page (take k es ++ drop (suc k) es) q ≡ put (at_page es) p None q → (b : Bool) → (e.page == q) ≡ b → (d : Bool) → (q == p) ≡ d
        → (if b then Some e.value else at_page (take k es ++ drop (suc k) es) q) ≡ cond d None (if b then Some e.value else at_page es q)
    go back true i true j = absurd (let one : e.page ≡ q = grind (arith, nat_tests, i) in let two : q ≡ p = grind (arith, nat_tests, j) in
        omega (arith, higher, one, two))
    go back true i false j = refl
    go back false i true j = back ∙ ap (λ c. cond c None (at_page es q)) j
    go back false i false j = back ∙ ap (λ c. cond c None (at_page es q)) j

-- the place is that of the page
pub there : {V : Type 0} (es : List (OfPage V)) (k p : ℕ) → is_there es k p ≡ true → (k < length es) × (page_in es k ≡ p)
there es k p h = go (nat_lt k (length es)) refl (page_in es k == p) refl h
  where
    go : (b : Bool) → nat_lt k (length es) ≡ b → (d : Bool) → (page_in es k == p) ≡ d → b && d ≡ true → (k < length es) × (page_in es k ≡ p)
    go true i true j e = (grind (arith, nat_tests, i), grind (arith, nat_tests, j))
    go true i false j e = absurd cc
    go false i d j e = absurd cc

pub taken_above : {V : Type 0} (old new : List (OfPage V)) (k : ℕ) → new ≡ take k old ++ drop (suc k) old → IsAbove 0 old → IsAbove 0 new
taken_above old new k e h = subst (IsAbove 0) (sym e) (removed_above 0 old k h)

pub taken_at : {V : Type 0} (old new : List (OfPage V)) (k p : ℕ) → new ≡ take k old ++ drop (suc k) old → IsAbove 0 old
    → is_there old k p ≡ true → (q : ℕ) → at_page new q ≡ put (at_page old) p None q
taken_at old new k p e h is q = let at = there old k p is in ap (λ es. at_page es q) e ∙ removed_at 0 old k p h at.0 at.1 q

-- where the page had none, nothing changes
pub left_at : {V : Type 0} (es : List (OfPage V)) (p : ℕ) → at_page es p ≡ None → (q : ℕ) → at_page es q ≡ put (at_page es) p None q
left_at es p none q = go (q == p) refl
  where
    go : (b : Bool) → (q == p) ≡ b → at_page es q ≡ cond b None (at_page es q)
    go true is = let same : q ≡ p = grind (arith, nat_tests) in ap (at_page es) same ∙ none
    go false is = refl

-- ---- with one more

not_it : {V : Type 0} (es : List (OfPage V)) (e : OfPage V) (p : ℕ) → at_page (e ∷ es) p ≡ None → (e.page == p) ≡ false
not_it es e p h = go (e.page == p) refl
  where
    go : (b : Bool) → (e.page == p) ≡ b → (e.page == p) ≡ false
    go false is = is
    go true is = absurd (let some = sym (ap (λ c. if c then Some e.value else at_page es p) is) ∙ h in cc)

others_none : {V : Type 0} (es : List (OfPage V)) (e : OfPage V) (p : ℕ) → at_page (e ∷ es) p ≡ None → at_page es p ≡ None
others_none es e p h = sym (ap (λ c. if c then Some e.value else at_page es p) (not_it es e p h)) ∙ h

pub added_above : {V : Type 0} (n : ℕ) (es : List (OfPage V)) (k p : ℕ) (t : V) → IsAbove n es → n ≤ p → p < page_limit → k ≤ length es
    → ((i : ℕ) → i < k → page_in es i < p) → ((i : ℕ) → k ≤ i → i < length es → p ≤ page_in es i) → at_page es p ≡ None
    → IsAbove n (take k es ++ entry p t ∷ drop k es)
added_above n [] zero p t h le lt within below above none = (le, lt, h)
added_above n [] (suc k) p t h le lt within below above none = absurd (omega (arith, within))
added_above n (e ∷ es) zero p t (low, high, rest) le lt within below above none =
    let other = not_it es e p none in
    let first = above 0 (omega arith) (omega arith) in
    let ne : e.page ≢ p = grind (arith, nat_tests, other) in
    (le, lt, (omega (arith, first, ne), high, rest))
added_above n (e ∷ es) (suc k) p t (low, high, rest) le lt within below above none =
    let first = below 0 (omega arith) in (
      low,
      high,
      added_above (suc e.page) es k p t rest (omega (arith, first)) lt (omega (arith, within))
          (λ i less. below (suc i) (omega (arith, less)))
          (λ i more in_list. above (suc i) (omega (arith, more)) (omega (arith, in_list))) (others_none es e p none),
    )

added_first : {V : Type 0} (es : List (OfPage V)) (p : ℕ) (t : V) (q : ℕ) → at_page (entry p t ∷ es) q ≡ put (at_page es) p (Some t) q
added_first es p t q = go (p == q) refl (q == p) refl
  where
    go : (b : Bool) → (p == q) ≡ b → (d : Bool) → (q == p) ≡ d → (if b then Some t else at_page es q) ≡ cond d (Some t) (at_page es q)
    go true is true at = refl
    go false is false at = refl
    go true is false at = absurd (grind (arith, nat_tests))
    go false is true at = absurd (grind (arith, nat_tests))

pub added_at : {V : Type 0} (es : List (OfPage V)) (k p : ℕ) (t : V) (q : ℕ) → at_page es p ≡ None
    → at_page (take k es ++ entry p t ∷ drop k es) q ≡ put (at_page es) p (Some t) q
added_at es zero p t q none = added_first es p t q
added_at [] (suc k) p t q none = added_first [] p t q
added_at (e ∷ es) (suc k) p t q none = go (added_at es k p t q (others_none es e p none)) (e.page == q) refl (q == p) refl
  where
    go : at_page (take k es ++ entry p t ∷ drop k es) q ≡ put (at_page es) p (Some t) q → (b : Bool) → (e.page == q) ≡ b → (d : Bool) → (q == p) ≡ d
        → (if b then Some e.value else at_page (take k es ++ entry p t ∷ drop k es) q)
        ≡ cond d (Some t) (if b then Some e.value else at_page es q)
    go rest true is true at = absurd (let other = not_it es e p none in grind (arith, nat_tests, other))
    go rest true is false at = refl
    go rest false is true at = rest ∙ ap (λ c. cond c (Some t) (at_page es q)) at
    go rest false is false at = rest ∙ ap (λ c. cond c (Some t) (at_page es q)) at

-- ---- the list that has it, or not, where there was no room

pub inserted_above : {V : Type 0} (b : Bool) (old new : List (OfPage V)) (k p : ℕ) (t : V)
    → new ≡ (if b then take k old ++ entry p t ∷ drop k old else old) → IsAbove 0 old → p < page_limit → k ≤ length old
    → ((i : ℕ) → i < k → page_in old i < p) → ((i : ℕ) → k ≤ i → i < length old → p ≤ page_in old i) → at_page old p ≡ None → IsAbove 0 new
inserted_above true old new k p t e h lt within below above none =
    subst (IsAbove 0) (sym e) (added_above 0 old k p t h (omega arith) lt within below above none)
inserted_above false old new k p t e h lt within below above none = subst (IsAbove 0) (sym e) h

pub inserted_at : {V : Type 0} (b : Bool) (old new : List (OfPage V)) (k p : ℕ) (t : V)
    → new ≡ (if b then take k old ++ entry p t ∷ drop k old else old) → b ≡ true → at_page old p ≡ None
    → (q : ℕ) → at_page new q ≡ put (at_page old) p (Some t) q
inserted_at true old new k p t e is none q = ap (λ es. at_page es q) e ∙ added_at old k p t q none
inserted_at false old new k p t e is none q = absurd (cc)

-- ---- a place that is looked for

page_of : {V : Type 0} (es : List (OfPage V)) (k : ℕ) (d : OfPage V) → k < length es → (get_or es k d).page ≡ page_in es k
page_of [] k d lt = absurd (omega (arith, lt))
page_of (e ∷ es) zero d lt = refl
page_of (e ∷ es) (suc k) d lt = page_of es k d (omega (arith, lt))

pub up_to : {V : Type 0} (es : List (OfPage V)) (m p : ℕ) (d : OfPage V) → IsAbove 0 es → m < length es → (get_or es m d).page < p
    → (k : ℕ) → k < m + 1 → page_in es k < p
up_to es m p d h lt less k within = go (k == m) refl
  where
    at : page_in es m < p
    at = subst (λ x. x < p) (page_of es m d lt) less

    go : (b : Bool) → (k == m) ≡ b → page_in es k < p
    go true is = let same : k ≡ m = grind (arith, nat_tests) in subst (λ i. page_in es i < p) (sym same) at
    go false is =
        let other : k ≢ m = grind (arith, nat_tests) in
        let before = rising 0 es k m h (omega (arith, within, other)) lt in
        omega (arith, before, at)

pub from_on : {V : Type 0} (es : List (OfPage V)) (m p : ℕ) (d : OfPage V) → IsAbove 0 es → p ≤ (get_or es m d).page
    → (k : ℕ) → m ≤ k → k < length es → p ≤ page_in es k
from_on es m p d h more k within lt = go (k == m) refl
  where
    at : p ≤ page_in es m
    at = subst (λ x. p ≤ x) (page_of es m d (omega (arith, within, lt))) more

    go : (b : Bool) → (k == m) ≡ b → p ≤ page_in es k
    go true is = let same : k ≡ m = grind (arith, nat_tests) in subst (λ i. p ≤ page_in es i) (sym same) at
    go false is =
        let other : k ≢ m = grind (arith, nat_tests) in
        let behind = rising 0 es m k h (omega (arith, within, other)) lt in
        omega (arith, behind, at)

-- the entry at a place is that of the page, where the page is read from the entry
pub there_by : {V : Type 0} (es : List (OfPage V)) (k p : ℕ) (d : OfPage V) → k < length es → (get_or es k d).page == p ≡ is_there es k p
there_by es k p d lt = ap (λ x. x == p) (page_of es k d lt) ∙ ap (λ b. b && page_in es k == p) (sym less)
  where
    less : nat_lt k (length es) ≡ true
    less = grind (arith, nat_tests, lt)
