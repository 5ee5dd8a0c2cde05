-- The order of a TLB's fills: the translations around one of it, what it leaves that is dropped, and a walk that drops some.
-- Each list of translations is that of the numbers of an order, by what each stands for
use Rattle.std.proofs.Common.{◌≡◌, ◌≢◌, ℕ, zero, suc, ◌+◌, ◌<◌, ◌≤◌, ◌==◌, Bool, true, false, List, [], ◌∷◌, ◌++◌, length, take, drop, map, not}
use Rattle.std.proofs.Common.{Option, None, Some, ◌⊎◌, inl, inr, nat_lt, refl, sym, ◌∙◌, ap, arith, slice_index}
use Rattle.std.proofs.lemmas.List.{take_all, drop_all, take-append-le, length-append, append-nil, get_or_default, set-get_or, get_or-set_same, get_or-set_other}
use Rattle.std.proofs.lemmas.List.{get_or_append_left}
use Rattle.std.proofs.lemmas.List.Edits.{map_over_more}
use Rattle.std.proofs.lemmas.List.Elements.{filter_map-append}
use Rattle.std.proofs.lemmas.Bool.{cases_eq}
use Rattle.std.proofs.lemmas.Bool.Decides.{nat_tests}
use Rattle.std.proofs.Math.ListN.{set, length-set}
use Rattle.std.specs.List.{filter_map, cons_option, refill}
use Rattle.std.specs.Prelude.{if◌then◌else◌}
use Rattle.vm_base.proofs.Functions.{eq_true}
use Rattle.mmu.specs.declared.tlb.TlbEntry.{TlbEntry}
use Rattle.mmu.specs.Tlb.{tlb_at, tlb_without, are_distinct, is_at}
use Rattle.mmu.specs.Fills.{NoneBefore}
use Rattle.mmu.proofs.Distinct.{found_between, dropped_between}

-- ---- the translation of one, and those before and behind it

pub parted : (f : ℕ → Option TlbEntry) (fs : List ℕ) (i : ℕ) (e : TlbEntry) → i < length fs → f (slice_index fs i) ≡ Some e
    → filter_map f fs ≡ filter_map f (take i fs) ++ e ∷ filter_map f (drop (suc i) fs)
parted f [] i e l h = absurd (omega arith)
parted f (x ∷ xs) zero e l h = ap (λ o. cons_option o (filter_map f xs)) h
parted f (x ∷ xs) (suc i) e l h = go (f x) (parted f xs i e (omega arith) h)
  where
    go : (o : Option TlbEntry) → filter_map f xs ≡ filter_map f (take i xs) ++ e ∷ filter_map f (drop (suc i) xs)
        → cons_option o (filter_map f xs) ≡ cons_option o (filter_map f (take i xs)) ++ e ∷ filter_map f (drop (suc i) xs)
    go (Some y) rest = ap (λ es. y ∷ es) rest
    go None rest = rest

-- those around one in whose stead nothing stands
pub left_around : (f : ℕ → Option TlbEntry) (fs : List ℕ) (i n : ℕ) → f n ≡ None → i < length fs
    → filter_map f (set fs i n) ≡ filter_map f (take i fs) ++ filter_map f (drop (suc i) fs)
left_around f [] i n none l = absurd (omega arith)
left_around f (x ∷ xs) zero n none l = ap (λ o. cons_option o (filter_map f xs)) none
left_around f (x ∷ xs) (suc i) n none l = go (f x) (left_around f xs i n none (omega arith))
  where
    go : (o : Option TlbEntry) → filter_map f (set xs i n) ≡ filter_map f (take i xs) ++ filter_map f (drop (suc i) xs)
        → cons_option o (filter_map f (set xs i n)) ≡ cons_option o (filter_map f (take i xs)) ++ filter_map f (drop (suc i) xs)
    go (Some y) rest = ap (λ es. y ∷ es) rest
    go None rest = rest

-- one less
pub one_less : (f : ℕ → Option TlbEntry) (fs : List ℕ) (i n : ℕ) (e : TlbEntry) → f n ≡ None → i < length fs → f (slice_index fs i) ≡ Some e
    → length (filter_map f (set fs i n)) + 1 ≡ length (filter_map f fs)
one_less f fs i n e none l h =
    let before = filter_map f (take i fs) in
    let behind = filter_map f (drop (suc i) fs) in
    let now : length (filter_map f (set fs i n)) ≡ length before + length behind =
    ap length (left_around f fs i n none l) ∙ length-append before behind in
    let was : length (filter_map f fs) ≡ length before + length (e ∷ behind) = ap length (parted f fs i e l h) ∙ length-append before (e ∷ behind) in
    omega arith

-- all but the page that stood there
pub page_left : (f : ℕ → Option TlbEntry) (fs : List ℕ) (i n : ℕ) (e : TlbEntry) → are_distinct (filter_map f fs) ≡ true → f n ≡ None → i < length fs
    → f (slice_index fs i) ≡ Some e → filter_map f (set fs i n) ≡ tlb_without (is_at e.page) (filter_map f fs)
page_left f fs i n e d none l h =
    let whole = parted f fs i e l h in
    left_around f fs i n none l
    ∙ dropped_between (filter_map f (take i fs)) (filter_map f (drop (suc i) fs)) e (ap are_distinct (sym whole) ∙ d)
    ∙ ap (tlb_without (is_at e.page)) (sym whole)

-- one more
pub pushed : (f : ℕ → Option TlbEntry) (fs : List ℕ) (b : ℕ) (e : TlbEntry) → f b ≡ Some e
    → filter_map f (fs ++ b ∷ []) ≡ filter_map f fs ++ e ∷ []
pushed f fs b e h = filter_map-append f fs (b ∷ []) ∙ ap (λ o. filter_map f fs ++ cons_option o []) h

-- where no number of the order stands for another translation
pub same_entries : (f g : ℕ → Option TlbEntry) (fs : List ℕ) → ((i : ℕ) → i < length fs → f (slice_index fs i) ≡ g (slice_index fs i))
    → filter_map f fs ≡ filter_map g fs
same_entries f g [] same = refl
same_entries f g (x ∷ xs) same =
    ap (λ o. cons_option o (filter_map f xs)) (same 0 (omega arith))
    ∙ ap (cons_option (g x)) (same_entries f g xs (λ i l. same (suc i) (omega arith)))

-- ---- what a page has

-- the page's translation is the one that is in the order
pub there : (f : ℕ → Option TlbEntry) (fs : List ℕ) (p i : ℕ) (e : TlbEntry) → are_distinct (filter_map f fs) ≡ true → i < length fs
    → f (slice_index fs i) ≡ Some e → e.page ≡ p → tlb_at (filter_map f fs) p ≡ Some e.translation
there f fs p i e d l h same =
    let whole = parted f fs i e l h in
    ap (λ es. tlb_at es p) whole ∙ ap (tlb_at _) (sym same)
    ∙ found_between (filter_map f (take i fs)) (filter_map f (drop (suc i) fs)) e (ap are_distinct (sym whole) ∙ d)

-- a page of none that is in the order has no translation
pub not_there : (f : ℕ → Option TlbEntry) (fs : List ℕ) (p : ℕ)
    → ((i : ℕ) (e : TlbEntry) → i < length fs → f (slice_index fs i) ≡ Some e → e.page ≢ p) → tlb_at (filter_map f fs) p ≡ None
not_there f [] p n = refl
not_there f (x ∷ xs) p n = go (f x) refl (not_there f xs p (λ i e l h. n (suc i) e (omega arith) h))
  where
    go : (o : Option TlbEntry) → f x ≡ o → tlb_at (filter_map f xs) p ≡ None → tlb_at (cons_option o (filter_map f xs)) p ≡ None
    go None k rest = rest
    go (Some e) k rest = by (e.page == p) refl
      where
        by : (b : Bool) → (e.page == p) ≡ b → (if b then Some e.translation else tlb_at (filter_map f xs) p) ≡ None
        by false t = rest
        by true t = absurd (n 0 e (omega arith) k (eq_true e.page p t))

-- ---- an order that begins with no places

pub none_before : (f : ℕ → Option TlbEntry) (fs : List ℕ) (n : ℕ) → ((b : ℕ) → 64 ≤ b → f b ≡ None) → NoneBefore n fs
    → filter_map f (take n fs) ≡ []
none_before f [] zero none h = refl
none_before f [] (suc n) none h = refl
none_before f (x ∷ xs) zero none h = refl
none_before f (x ∷ xs) (suc n) none h =
    ap (λ o. cons_option o (filter_map f (take n xs))) (none x (h 0 (omega arith) (omega arith)))
    ∙ none_before f xs n none (λ i lt l. h (suc i) (omega arith) (omega arith))

-- one more
pub none_more : (fs : List ℕ) (i : ℕ) → NoneBefore i fs → 64 ≤ slice_index fs i → NoneBefore (i + 1) fs
none_more fs i h e = λ j lt l. by j lt l (cases_eq j i)
  where
    by : (j : ℕ) → j < i + 1 → j < length fs → (j ≡ i) ⊎ (j ≢ i) → 64 ≤ slice_index fs j
    by j lt l (inl k) = rw k e
    by j lt l (inr k) = h j (omega arith) l

pub none_set : (fs : List ℕ) (n i : ℕ) → NoneBefore n fs → NoneBefore n (set fs i 64)
none_set fs n i h = λ j lt l. by j lt (omega (arith, length-set fs i 64)) (cases_eq j i)
  where
    by : (j : ℕ) → j < n → j < length fs → (j ≡ i) ⊎ (j ≢ i) → 64 ≤ slice_index (set fs i 64) j
    by j lt l (inl k) =
        let is : slice_index (set fs i 64) i ≡ 64 = get_or-set_same fs i 64 0 (omega arith) in
        rw k (omega arith)
    by j lt l (inr k) =
        let is : slice_index (set fs i 64) j ≡ slice_index fs j = get_or-set_other fs i j 64 0 k in
        let was : 64 ≤ slice_index fs j = h j lt l in
        omega arith

pub none_dropped_at : (fs : List ℕ) (i : ℕ) → i < length fs → NoneBefore i fs → NoneBefore (i + 1) (set fs i 64)
none_dropped_at fs i l h =
    let is : slice_index (set fs i 64) i ≡ 64 = get_or-set_same fs i 64 0 l in
    none_more (set fs i 64) i (none_set fs i i h) (omega arith)

pub none_pushed : (fs : List ℕ) (n b : ℕ) → n ≤ length fs → NoneBefore n fs → NoneBefore n (fs ++ b ∷ [])
none_pushed fs n b le h = λ j lt l.
    let is : slice_index (fs ++ b ∷ []) j ≡ slice_index fs j = get_or_append_left fs (b ∷ []) 0 j (omega arith) in
    let was : 64 ≤ slice_index fs j = h j lt (omega arith) in
    omega arith

-- where some are held, not all have been passed
pub some_left : (f : ℕ → Option TlbEntry) (fs : List ℕ) (i : ℕ) → ((b : ℕ) → 64 ≤ b → f b ≡ None) → NoneBefore i fs → 0 < length (filter_map f fs)
    → i < length fs
some_left f fs i none h some = go (nat_lt i (length fs)) refl
  where
    go : (b : Bool) → nat_lt i (length fs) ≡ b → i < length fs
    go true t = grind (arith, nat_tests)
    go false t =
        let past : length fs ≤ i = grind (arith, nat_tests) in
        let zero_length : length (filter_map f fs) ≡ 0 =
        ap (λ xs. length (filter_map f xs)) (sym (take_all i fs past)) ∙ ap length (none_before f fs i none h) in
        absurd (omega arith)

-- all but the oldest
pub oldest_left : (f : ℕ → Option TlbEntry) (fs : List ℕ) (i : ℕ) (e : TlbEntry) → ((b : ℕ) → 64 ≤ b → f b ≡ None) → NoneBefore i fs → i < length fs
    → f (slice_index fs i) ≡ Some e → filter_map f (set fs i 64) ≡ drop 1 (filter_map f fs)
oldest_left f fs i e none h l k =
    let before = none_before f fs i none h in
    left_around f fs i 64 (none 64 (omega arith)) l ∙ ap (λ es. es ++ filter_map f (drop (suc i) fs)) before
    ∙ sym (ap (drop 1) (parted f fs i e l k ∙ ap (λ es. es ++ e ∷ filter_map f (drop (suc i) fs)) before))

-- ---- a walk over the order that drops the pages of a set

abbrev pub taken_by : (ℕ → Bool) → Option TlbEntry → Bool
taken_by s None = false
taken_by s (Some e) = s e.page

abbrev pub drop_if : (ℕ → Option TlbEntry) → (ℕ → Bool) → ℕ → ℕ
drop_if f s b = if taken_by s (f b) then 64 else b

-- it may begin behind those that are no places
pub walk_from : (f : ℕ → Option TlbEntry) (s : ℕ → Bool) (fs : List ℕ) (n : ℕ) → ((b : ℕ) → 64 ≤ b → f b ≡ None) → NoneBefore n fs
    → fs ≡ map (drop_if f s) (take n fs) ++ drop n fs
walk_from f s [] zero none h = refl
walk_from f s [] (suc n) none h = refl
walk_from f s (x ∷ xs) zero none h = refl
walk_from f s (x ∷ xs) (suc n) none h =
    let same : drop_if f s x ≡ x = ap (λ o. if taken_by s o then 64 else x) (none x (h 0 (omega arith) (omega arith))) in
    ap (λ y. y ∷ xs) (sym same)
    ∙ ap (λ ys. drop_if f s x ∷ ys) (walk_from f s xs n none (λ i lt l. h (suc i) (omega arith) (omega arith)))

-- what it leaves
walked_over : (f : ℕ → Option TlbEntry) (s : ℕ → Bool) (fs : List ℕ) → f 64 ≡ None
    → filter_map f (map (drop_if f s) fs) ≡ tlb_without s (filter_map f fs)
walked_over f s [] none = refl
walked_over f s (x ∷ xs) none = go (f x) refl (walked_over f s xs none)
  where
    now : List TlbEntry
    now = filter_map f (map (drop_if f s) xs)

    was : List TlbEntry
    was = filter_map f xs

    go : (o : Option TlbEntry) → f x ≡ o → now ≡ tlb_without s was
        → cons_option (f (if taken_by s (f x) then 64 else x)) now ≡ tlb_without s (cons_option (f x) was)
    go None k rest =
        ap (λ o. cons_option (f (if taken_by s o then 64 else x)) now) k ∙ ap (λ o. cons_option o now) k ∙ rest
        ∙ sym (ap (λ o. tlb_without s (cons_option o was)) k)
    go (Some e) k rest = by (s e.page) refl
      where
        by : (b : Bool) → s e.page ≡ b → cons_option (f (if taken_by s (f x) then 64 else x)) now ≡ tlb_without s (cons_option (f x) was)
        by true t =
            ap (λ b. cons_option (f (if b then 64 else x)) now) (ap (taken_by s) k ∙ t) ∙ ap (λ o. cons_option o now) none ∙ rest
            ∙ sym (ap (λ o. tlb_without s (cons_option o was)) k ∙ ap (λ b. if not b then e ∷ tlb_without s was else tlb_without s was) t)
        by false t =
            ap (λ b. cons_option (f (if b then 64 else x)) now) (ap (taken_by s) k ∙ t) ∙ ap (λ o. cons_option o now) k ∙ ap (λ es. e ∷ es) rest
            ∙ sym (ap (λ o. tlb_without s (cons_option o was)) k ∙ ap (λ b. if not b then e ∷ tlb_without s was else tlb_without s was) t)

-- one that is dropped, and one that stays
pub walk_drops : (f : ℕ → Option TlbEntry) (s : ℕ → Bool) (fs now : List ℕ) (i : ℕ) → i < length fs → i < length now
    → now ≡ map (drop_if f s) (take i fs) ++ drop i fs → taken_by s (f (slice_index now i)) ≡ true
    → set now i 64 ≡ map (drop_if f s) (take (i + 1) fs) ++ drop (i + 1) fs
walk_drops f s fs now i l k is e =
    ap (set now i) (sym turned)
    ∙ map_over_more (drop_if f s) fs now i (slice_index now i) l is (sym (get_or_default now i (slice_index now i) 0 k))
  where
    turned : drop_if f s (slice_index now i) ≡ 64
    turned = ap (λ b. if b then 64 else slice_index now i) e

pub walk_passes : (f : ℕ → Option TlbEntry) (s : ℕ → Bool) (fs now : List ℕ) (i : ℕ) → i < length fs → i < length now
    → now ≡ map (drop_if f s) (take i fs) ++ drop i fs → taken_by s (f (slice_index now i)) ≡ false
    → now ≡ map (drop_if f s) (take (i + 1) fs) ++ drop (i + 1) fs
walk_passes f s fs now i l k is e =
    sym (set-get_or now i 0) ∙ ap (set now i) (sym same)
    ∙ map_over_more (drop_if f s) fs now i (slice_index now i) l is (sym (get_or_default now i (slice_index now i) 0 k))
  where
    same : drop_if f s (slice_index now i) ≡ slice_index now i
    same = ap (λ b. if b then 64 else slice_index now i) e

pub walk_done : (f : ℕ → Option TlbEntry) (s : ℕ → Bool) (fs now : List ℕ) (n : ℕ) → f 64 ≡ None → length fs ≤ n
    → now ≡ map (drop_if f s) (take n fs) ++ drop n fs → filter_map f now ≡ tlb_without s (filter_map f fs)
walk_done f s fs now n none past is =
    ap (filter_map f) (is ∙ ap (λ xs. map (drop_if f s) xs ++ drop n fs) (take_all n fs past)
    ∙ ap (λ xs. map (drop_if f s) fs ++ xs) (drop_all n fs past) ∙ append-nil (map (drop_if f s) fs))
    ∙ walked_over f s fs none

-- ---- an order that was lent, as it was given back

given_back : (fs new : List ℕ) → length new ≡ length fs → refill (length fs) fs new ≡ new
given_back fs new same =
    take-append-le (length fs) new (drop (length new) fs) (omega (arith, same)) ∙ take_all (length fs) new (omega (arith, same))

pub written : (fs read : List ℕ) (i k v : ℕ) → read ≡ fs → i ≡ k → refill (length fs) fs (set read i v) ≡ set fs k v
written fs read i k v e at =
    ap (λ xs. refill (length fs) fs (set xs i v)) e ∙ given_back fs (set fs i v) (length-set fs i v) ∙ ap (λ n. set fs n v) at

pub one_dropped : (es : List TlbEntry) → 0 < length es → length (drop 1 es) + 1 ≡ length es
one_dropped [] some = absurd (omega arith)
one_dropped (x ∷ xs) some = omega arith
