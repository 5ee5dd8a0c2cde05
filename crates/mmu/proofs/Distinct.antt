-- A TLB with one translation of a page at most: where the page stands, and what changes leave so
use Rattle.std.proofs.Common.{◌≡◌, ℕ, ◌+◌, ◌<◌, ◌≤◌, ◌==◌, ◌&&◌, ◌||◌, nat_lt, Bool, true, false, List, [], ◌∷◌, ◌++◌, drop, Option, None}
use Rattle.std.proofs.Common.{Some, is_some, refl, ◌∙◌, sym, ap, arith, not}
use Rattle.std.specs.Prelude.{if◌then◌else◌}
use Rattle.std.proofs.lemmas.List.Elements.{filter-append}
use Rattle.std.proofs.lemmas.Bool.Decides.{nat_tests}
use Rattle.vm_base.specs.declared.page.PageRange.{PageRange}
use Rattle.vm_base.specs.Functions.{has}
use Rattle.mmu.specs.declared.entry.Translation.{Translation}
use Rattle.mmu.specs.declared.tlb.TlbEntry.{TlbEntry}
use Rattle.mmu.specs.Tlb.{tlb_at, tlb_without, are_distinct, is_at}

-- ---- pages without a translation

parts : (x : TlbEntry) (xs : List TlbEntry) (p : ℕ) → tlb_at (x ∷ xs) p ≡ None → ((x.page == p) ≡ false) × (tlb_at xs p ≡ None)
parts x xs p h = go (x.page == p) refl h
  where
    go : (b : Bool) → (x.page == p) ≡ b → (if b then Some x.translation else tlb_at xs p) ≡ None → ((x.page == p) ≡ false) × (tlb_at xs p ≡ None)
    go true e h = absurd cc
    go false e h = (e, h)

absent_more : (x : TlbEntry) (xs : List TlbEntry) (p : ℕ) → (x.page == p) ≡ false → tlb_at xs p ≡ None → tlb_at (x ∷ xs) p ≡ None
absent_more x xs p e h = ap (λ b. if b then Some x.translation else tlb_at xs p) e ∙ h

absent_end : (es : List TlbEntry) (x : TlbEntry) (p : ℕ) → tlb_at es p ≡ None → (x.page == p) ≡ false → tlb_at (es ++ x ∷ []) p ≡ None
absent_end [] x p h e = absent_more x [] p e refl
absent_end (y ∷ ys) x p h e = absent_more y (ys ++ x ∷ []) p (parts y ys p h).0 (absent_end ys x p (parts y ys p h).1 e)

pub absent_drop : (es : List TlbEntry) (p : ℕ) → tlb_at es p ≡ None → tlb_at (drop 1 es) p ≡ None
absent_drop [] p h = refl
absent_drop (x ∷ xs) p h = (parts x xs p h).1

absent_without : (s : ℕ → Bool) (es : List TlbEntry) (p : ℕ) → tlb_at es p ≡ None → tlb_at (tlb_without s es) p ≡ None
absent_without s [] p h = refl
absent_without s (x ∷ xs) p h = go (absent_without s xs p (parts x xs p h).1) (s x.page)
  where
    go : tlb_at (tlb_without s xs) p ≡ None → (b : Bool) → tlb_at (if not b then x ∷ tlb_without s xs else tlb_without s xs) p ≡ None
    go rest true = rest
    go rest false = absent_more x (tlb_without s xs) p (parts x xs p h).0 rest

-- ---- distinct pages

apart_head : (x : TlbEntry) (xs : List TlbEntry) → are_distinct (x ∷ xs) ≡ true → (tlb_at xs x.page ≡ None) × (are_distinct xs ≡ true)
apart_head x xs h = go (tlb_at xs x.page) refl (are_distinct xs) refl h
  where
    go : (o : Option Translation) → tlb_at xs x.page ≡ o → (b : Bool) → are_distinct xs ≡ b → (not (is_some o) && b) ≡ true
        → (tlb_at xs x.page ≡ None) × (are_distinct xs ≡ true)
    go None e true f h = (e, f)
    go None e false f h = absurd cc
    go (Some t) e b f h = absurd cc

distinct_more : (x : TlbEntry) (xs : List TlbEntry) → tlb_at xs x.page ≡ None → are_distinct xs ≡ true → are_distinct (x ∷ xs) ≡ true
distinct_more x xs e f = ap (λ o. not (is_some o) && are_distinct xs) e ∙ f

pub distinct_end : (es : List TlbEntry) (x : TlbEntry) → are_distinct es ≡ true → tlb_at es x.page ≡ None → are_distinct (es ++ x ∷ []) ≡ true
distinct_end [] x h n = refl
distinct_end (y ∷ ys) x h n =
    let other : (y.page == x.page) ≡ false = (parts y ys x.page n).0 in
    let flipped : (x.page == y.page) ≡ false = grind (arith, nat_tests) in
    distinct_more y (ys ++ x ∷ []) (absent_end ys x y.page (apart_head y ys h).0 flipped) (distinct_end ys x (apart_head y ys h).1 (parts y ys x.page n).1)

pub distinct_without : (s : ℕ → Bool) (es : List TlbEntry) → are_distinct es ≡ true → are_distinct (tlb_without s es) ≡ true
distinct_without s [] h = refl
distinct_without s (x ∷ xs) h = go (distinct_without s xs (apart_head x xs h).1) (s x.page)
  where
    go : are_distinct (tlb_without s xs) ≡ true → (b : Bool) → are_distinct (if not b then x ∷ tlb_without s xs else tlb_without s xs) ≡ true
    go rest true = rest
    go rest false = distinct_more x (tlb_without s xs) (absent_without s xs x.page (apart_head x xs h).0) rest

-- ---- the translation of a page, and those before and behind it

absent_inside : (front behind : List TlbEntry) (e : TlbEntry) (p : ℕ) → tlb_at (front ++ e ∷ behind) p ≡ None → (e.page == p) ≡ false
absent_inside [] behind e p h = (parts e behind p h).0
absent_inside (x ∷ xs) behind e p h = absent_inside xs behind e p (parts x (xs ++ e ∷ behind) p h).1

pub absent_before : (front behind : List TlbEntry) (e : TlbEntry) → are_distinct (front ++ e ∷ behind) ≡ true → tlb_at front e.page ≡ None
absent_before [] behind e h = refl
absent_before (x ∷ xs) behind e h =
    let s = apart_head x (xs ++ e ∷ behind) h in
    let other : (e.page == x.page) ≡ false = absent_inside xs behind e x.page s.0 in
    let flipped : (x.page == e.page) ≡ false = grind (arith, nat_tests) in
    absent_more x xs e.page flipped (absent_before xs behind e s.1)

absent_behind : (front behind : List TlbEntry) (e : TlbEntry) → are_distinct (front ++ e ∷ behind) ≡ true → tlb_at behind e.page ≡ None
absent_behind [] behind e h = (apart_head e behind h).0
absent_behind (x ∷ xs) behind e h = absent_behind xs behind e (apart_head x (xs ++ e ∷ behind) h).1

past_absent : (front behind : List TlbEntry) (p : ℕ) → tlb_at front p ≡ None → tlb_at (front ++ behind) p ≡ tlb_at behind p
past_absent [] behind p h = refl
past_absent (x ∷ xs) behind p h = rw (parts x xs p h).0 (past_absent xs behind p (parts x xs p h).1)

itself : (p : ℕ) → (p == p) ≡ true
itself p = grind (arith, nat_tests)

pub found_between : (front behind : List TlbEntry) (e : TlbEntry) → are_distinct (front ++ e ∷ behind) ≡ true
    → tlb_at (front ++ e ∷ behind) e.page ≡ Some e.translation
found_between front behind e h = past_absent front (e ∷ behind) e.page (absent_before front behind e h)
    ∙ ap (λ b. if b then Some e.translation else tlb_at behind e.page) (itself e.page)

-- without a page that has none
pub none_dropped : (es : List TlbEntry) (p : ℕ) → tlb_at es p ≡ None → es ≡ tlb_without (is_at p) es
none_dropped [] p h = refl
none_dropped (x ∷ xs) p h = rw (parts x xs p h).0 (ap (λ ys. x ∷ ys) (none_dropped xs p (parts x xs p h).1))

pub dropped_between : (front behind : List TlbEntry) (e : TlbEntry) → are_distinct (front ++ e ∷ behind) ≡ true
    → front ++ behind ≡ tlb_without (is_at e.page) (front ++ e ∷ behind)
dropped_between front behind e h =
    let rest = tlb_without (is_at e.page) behind in
    ap (λ xs. xs ++ behind) (none_dropped front e.page (absent_before front behind e h))
    ∙ ap (λ ys. tlb_without (is_at e.page) front ++ ys) (none_dropped behind e.page (absent_behind front behind e h)
    ∙ sym (ap (λ b. if not b then e ∷ rest else rest) (itself e.page)))
    ∙ sym (filter-append (λ (x : TlbEntry). not (x.page == e.page)) front (e ∷ behind))

-- ---- without the pages of a set

pub without_none : (s : ℕ → Bool) (es : List TlbEntry) → ((p : ℕ) → s p ≡ false) → es ≡ tlb_without s es
without_none s [] n = refl
without_none s (x ∷ xs) n = rw (n x.page) (ap (λ ys. x ∷ ys) (without_none s xs n))

pub without_same : (s t : ℕ → Bool) (es : List TlbEntry) → ((p : ℕ) → s p ≡ t p) → tlb_without s es ≡ tlb_without t es
without_same s t [] same = refl
without_same s t (x ∷ xs) same = rw (same x.page) (ap (λ ys. if not (t x.page) then x ∷ ys else ys) (without_same s t xs same))

-- one page more
pub without_more : (s t : ℕ → Bool) (q : ℕ) (es : List TlbEntry) → ((p : ℕ) → t p ≡ (s p || is_at q p))
    → tlb_without (is_at q) (tlb_without s es) ≡ tlb_without t es
without_more s t q [] both = refl
without_more s t q (x ∷ xs) both = rw (both x.page) (go (s x.page) (x.page == q) refl (without_more s t q xs both))
  where
    rest : List TlbEntry
    rest = tlb_without s xs

    go : (b c : Bool) → (x.page == q) ≡ c → tlb_without (is_at q) rest ≡ tlb_without t xs
        → tlb_without (is_at q) (if not b then x ∷ rest else rest) ≡ (if not (b || (x.page == q)) then x ∷ tlb_without t xs else tlb_without t xs)
    go true c e more = more
    go false true e more = rw e more
    go false false e more = rw e (ap (λ ys. x ∷ ys) more)

-- the pages of a range from its first one on, and one page more
pub from_first : (r : PageRange) (es : List TlbEntry) → es ≡ tlb_without (λ p. has r p && nat_lt p r.first) es
from_first r es = without_none (λ p. has r p && nat_lt p r.first) es (λ p. grind (arith, nat_tests))

pub page_more : (r : PageRange) (q : ℕ) (now es : List TlbEntry) → r.first ≤ q → q < r.end → now ≡ tlb_without (λ p. has r p && nat_lt p q) es
    → tlb_without (is_at q) now ≡ tlb_without (λ p. has r p && nat_lt p (q + 1)) es
page_more r q now es from lt is =
    ap (tlb_without (is_at q)) is
    ∙ without_more (λ p. has r p && nat_lt p q) (λ p. has r p && nat_lt p (q + 1)) q es (λ p. grind (arith, nat_tests))

pub to_end : (r : PageRange) (q : ℕ) (es : List TlbEntry) → r.end ≤ q → tlb_without (λ p. has r p && nat_lt p q) es ≡ tlb_without (has r) es
to_end r q es past = without_same (λ p. has r p && nat_lt p q) (has r) es (λ p. grind (arith, nat_tests))
