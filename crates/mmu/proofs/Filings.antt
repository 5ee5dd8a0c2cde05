-- The places of a TLB: how many are free, where each stands in the order, and the sets by a hash of the page
use Rattle.std.proofs.Common.{◌≡◌, ◌≢◌, ℕ, zero, suc, ◌+◌, ◌<◌, ◌≤◌, ◌==◌, Bool, true, false, List, [], ◌∷◌, ◌++◌, length}
use Rattle.std.proofs.Common.{Option, None, Some, ◌⊎◌, inl, inr, nat_lt, refl, sym, ◌∙◌, ap, subst, arith, slice_index, slice_set}
use Rattle.std.proofs.lemmas.List.{length-append, get_or-set_other, get_or_append_left, get_or_push}
use Rattle.std.proofs.lemmas.Grind.{get_or-set_at}
use Rattle.std.proofs.lemmas.Bool.{cases_eq, cases_lt}
use Rattle.std.proofs.lemmas.Bool.Decides.{nat_tests}
use Rattle.std.proofs.Common.{◌^◌, ◌%◌, w64, drop}
use Rattle.std.proofs.Math.ListN.{length-set}
use Rattle.std.proofs.Math.Nat.{div-eq_of_lt}
use Rattle.std.proofs.Math.Pow.{pow_mono}
use Rattle.std.specs.Int.{trailing_zeros}
use Rattle.std.specs.Prelude.{unwrap_or}
use Rattle.std.specs.Prelude.{if◌then◌else◌}
use Rattle.vm_base.specs.Functions.{put}
use Rattle.vm_base.specs.Cores.{members}
use Rattle.vm_base.proofs.Functions.{put_same, put_other}
use Rattle.vm_base.proofs.CoreSets.{members-least, members-empty}
use Rattle.mmu.specs.declared.tlb.TlbEntry.{TlbEntry}
use Rattle.mmu.specs.declared.entry.Translation.{Translation}
use Rattle.mmu.specs.Tlb.{page_hash, tlb_at, tlb_filled, tlb_without, are_distinct, is_at}
use Rattle.mmu.specs.Fills.{entries_of, entry_at, filled_at, page_at, count_below, IsHeld, NoneBefore, AreOrdered, AreSets}
use Rattle.mmu.proofs.Orders.{pushed, same_entries, there, not_there, one_less, page_left, some_left}

-- ---- how many are free

count_same : (f g : ℕ → Bool) (n : ℕ) → ((k : ℕ) → k < n → f k ≡ g k) → count_below f n ≡ count_below g n
unfolding count_below
count_same f g zero same = refl
count_same f g (suc n) same =
    ap (λ b. if b then suc (count_below f n) else count_below f n) (same n (omega arith))
    ∙ ap (λ k. if g n then suc k else k) (count_same f g n (λ k l. same k (omega arith)))

-- a number more that was no member
pub count_more : (f : ℕ → Bool) (b n : ℕ) → b < n → f b ≡ false → count_below (put f b true) n ≡ count_below f n + 1
unfolding count_below
count_more f b zero l h = absurd (omega arith)
count_more f b (suc n) l h = by (cases_eq n b) (λ ne. count_more f b n (omega arith) h)
  where
    now : ℕ
    now = count_below (put f b true) n

    was : ℕ
    was = count_below f n

    by : (n ≡ b) ⊎ (n ≢ b) → (n ≢ b → now ≡ was + 1) → (if put f b true n then suc now else now) ≡ (if f n then suc was else was) + 1
    by (inl e) rest =
        let here : put f b true n ≡ true = ap (put f b true) e ∙ put_same f b true in
        let before : f n ≡ false = ap f e ∙ h in
        let below : now ≡ was = count_same (put f b true) f n (λ k lt. put_other f b true k (omega arith)) in
        ap (λ t. if t then suc now else now) here ∙ add_one below ∙ sym (ap (λ t. (if t then suc was else was) + 1) before)
      where
        add_one : now ≡ was → suc now ≡ was + 1
        add_one e = omega arith
    by (inr ne) rest = ap (λ t. if t then suc now else now) (put_other f b true n ne) ∙ go (f n) (rest ne)
      where
        go : (t : Bool) → now ≡ was + 1 → (if t then suc now else now) ≡ (if t then suc was else was) + 1
        go true e = omega arith
        go false e = e

-- a member less
pub count_less : (f : ℕ → Bool) (b n : ℕ) → b < n → f b ≡ true → count_below (put f b false) n + 1 ≡ count_below f n
count_less f b n l h =
    sym (count_same f (put (put f b false) b true) n (λ k lt. same k (cases_eq k b))
    ∙ count_more (put f b false) b n l (put_same f b false))
  where
    same : (k : ℕ) → (k ≡ b) ⊎ (k ≢ b) → f k ≡ put (put f b false) b true k
    same k (inl e) = ap f e ∙ h ∙ sym (ap (put (put f b false) b true) e ∙ put_same (put f b false) b true)
    same k (inr ne) = sym (put_other (put f b false) b true k ne ∙ put_other f b false k ne)

pub count_none : (f : ℕ → Bool) (n : ℕ) → ((k : ℕ) → f k ≡ false) → count_below f n ≡ 0
unfolding count_below
count_none f zero h = refl
count_none f (suc n) h = ap (λ b. if b then suc (count_below f n) else count_below f n) (h n) ∙ count_none f n h

count_fits : (f : ℕ → Bool) (n : ℕ) → count_below f n ≤ n
unfolding count_below
count_fits f zero = omega arith
count_fits f (suc n) = go (f n) (count_fits f n)
  where
    go : (t : Bool) → count_below f n ≤ n → (if t then suc (count_below f n) else count_below f n) ≤ suc n
    go true h = omega arith
    go false h = omega arith

-- where as many as may be are members, all are
pub all_members : (f : ℕ → Bool) (n : ℕ) → count_below f n ≡ n → (k : ℕ) → k < n → f k ≡ true
unfolding count_below
all_members f zero h k l = absurd (omega arith)
all_members f (suc n) h k l = go (f n) refl h (λ same lt. all_members f n same k lt)
  where
    go : (t : Bool) → f n ≡ t → (if t then suc (count_below f n) else count_below f n) ≡ suc n → (count_below f n ≡ n → k < n → f k ≡ true)
        → f k ≡ true
    go true e same rest = by (cases_eq k n)
      where
        by : (k ≡ n) ⊎ (k ≢ n) → f k ≡ true
        by (inl here) = ap f here ∙ e
        by (inr ne) = rest (omega arith) (omega arith)
    go false e same rest =
        let fits = count_fits f n in
        absurd (omega arith)

-- all 64 places
pub all_free : count_below (members 18446744073709551615) 64 ≡ 64
unfolding count_below
all_free = refl

-- ---- what a number of the order stands for

pub filled_here : (places : List TlbEntry) (b : ℕ) → b < 64 → filled_at places b ≡ Some (entry_at places b)
filled_here places b l =
    let test : nat_lt b 64 ≡ true = grind (arith, nat_tests) in
    ap (λ t. if t then Some (entry_at places b) else None) test

pub filled_none : (places : List TlbEntry) (b : ℕ) → 64 ≤ b → filled_at places b ≡ None
filled_none places b l =
    let test : nat_lt b 64 ≡ false = grind (arith, nat_tests) in
    ap (λ t. if t then Some (entry_at places b) else None) test

differ : (a b : Bool) → a ≡ true → a ≡ false → a ≢ b
differ true b e f = absurd cc
differ false b e f = absurd cc

-- a place that is free isn't one that isn't
pub other_place : (f : ℕ → Bool) (b c : ℕ) → f b ≡ true → f c ≡ false → c ≢ b
other_place f b c e h = λ same. differ (f b) (f c) e (ap f (sym same) ∙ h) (ap f (sym same))

-- ---- where each place stands

pub ordered_none : (at : List ℕ) (free : ℕ) → length at ≡ 64 → ((b : ℕ) → b < 64 → members free b ≡ true) → AreOrdered [] at free
ordered_none at free even all = record {
  even = even;
  held = λ b h. absurd (other_place (members free) b b (all b h.0) h.1 refl);
  there = λ i l. absurd (omega arith);
}

-- a place is dropped
pub ordered_dropped : (fs at : List ℕ) (free now b : ℕ) → AreOrdered fs at free → IsHeld free b → members now ≡ put (members free) b true
    → AreOrdered (slice_set fs (slice_index at b) 64) at now
ordered_dropped fs at free now b o h is = record {
  even = o.even;
  held = held;
  there = λ i l lt. there i (omega (arith, length-set fs (slice_index at b) 64)) lt (cases_eq i (slice_index at b));
}
  where
    left : (c : ℕ) → c ≢ b → members now c ≡ members free c
    left c ne = ap (λ f. f c) is ∙ put_other (members free) b true c ne

    gone : members now b ≡ true
    gone = ap (λ f. f b) is ∙ put_same (members free) b true

    held : (c : ℕ) → IsHeld now c
        → (slice_index at c < length (slice_set fs (slice_index at b) 64)) × (slice_index (slice_set fs (slice_index at b) 64) (slice_index at c) ≡ c)
    held c k =
        let ne : c ≢ b = other_place (members now) b c gone k.1 in
        let w = o.held c (k.0, sym (left c ne) ∙ k.1) in
        let v = o.held b h in
        let apart : slice_index at c ≢ slice_index at b = λ e. ne (sym w.1 ∙ ap (slice_index fs) e ∙ v.1) in (
          omega (arith, length-set fs (slice_index at b) 64, w.0),
          get_or-set_other fs (slice_index at b) (slice_index at c) 64 0 apart ∙ w.1,
        )

    there : (i : ℕ) → i < length fs → slice_index (slice_set fs (slice_index at b) 64) i < 64 → (i ≡ slice_index at b) ⊎ (i ≢ slice_index at b)
        → (members now (slice_index (slice_set fs (slice_index at b) 64) i) ≡ false) × (slice_index at (slice_index (slice_set fs (slice_index at b) 64) i) ≡ i)
    there i l lt (inl e) =
        let set : slice_index (slice_set fs (slice_index at b) 64) i ≡ 64 =
        get_or-set_at fs (slice_index at b) i 64 0 e (subst (λ k. k < length fs) e l) in
        absurd (omega arith)
    there i l lt (inr ne) =
        let same : slice_index (slice_set fs (slice_index at b) 64) i ≡ slice_index fs i = get_or-set_other fs (slice_index at b) i 64 0 ne in
        let w = o.there i l (omega arith) in
        let apart : slice_index fs i ≢ b = λ e. ne (sym w.1 ∙ ap (slice_index at) e) in
        subst (λ c. (members now c ≡ false) × (slice_index at c ≡ i)) (sym same) (left (slice_index fs i) apart ∙ w.0, w.1)

-- a place is filled
pub ordered_pushed : (fs at : List ℕ) (free now b : ℕ) → AreOrdered fs at free → b < 64 → members free b ≡ true
    → members now ≡ put (members free) b false → AreOrdered (fs ++ b ∷ []) (slice_set at b (length fs)) now
ordered_pushed fs at free now b o small h is = record {
  even = length-set at b (length fs) ∙ o.even;
  held = λ c k. held c k (cases_eq c b);
  there = λ i l lt. there i (omega (arith, length-append fs (b ∷ []))) lt (cases_lt i (length fs));
}
  where
    left : (c : ℕ) → c ≢ b → members now c ≡ members free c
    left c ne = ap (λ f. f c) is ∙ put_other (members free) b false c ne

    taken : members now b ≡ false
    taken = ap (λ f. f b) is ∙ put_same (members free) b false

    here : slice_index (slice_set at b (length fs)) b ≡ length fs
    here = get_or-set_at at b b (length fs) 0 refl (omega (arith, o.even))

    elsewhere : (c : ℕ) → c ≢ b → slice_index (slice_set at b (length fs)) c ≡ slice_index at c
    elsewhere c ne = get_or-set_other at b c (length fs) 0 ne

    last : slice_index (fs ++ b ∷ []) (length fs) ≡ b
    last = get_or_push fs b 0 (length fs) refl

    held : (c : ℕ) → IsHeld now c → (c ≡ b) ⊎ (c ≢ b)
        → (slice_index (slice_set at b (length fs)) c < length (fs ++ b ∷ [])) × (slice_index (fs ++ b ∷ []) (slice_index (slice_set at b (length fs)) c) ≡ c)
    held c k (inl e) =
        let is : slice_index (slice_set at b (length fs)) c ≡ length fs = ap (slice_index (slice_set at b (length fs))) e ∙ here in (
          omega (arith, length-append fs (b ∷ [])),
          ap (slice_index (fs ++ b ∷ [])) is ∙ last ∙ sym e,
        )
    held c k (inr ne) =
        let w = o.held c (k.0, sym (left c ne) ∙ k.1) in
        let is : slice_index (slice_set at b (length fs)) c ≡ slice_index at c = elsewhere c ne in (
          omega (arith, length-append fs (b ∷ []), w.0),
          ap (slice_index (fs ++ b ∷ [])) is ∙ get_or_append_left fs (b ∷ []) 0 (slice_index at c) w.0 ∙ w.1,
        )

    there : (i : ℕ) → i < length fs + 1 → slice_index (fs ++ b ∷ []) i < 64 → (i < length fs) ⊎ (length fs ≤ i)
        → (members now (slice_index (fs ++ b ∷ []) i) ≡ false) × (slice_index (slice_set at b (length fs)) (slice_index (fs ++ b ∷ []) i) ≡ i)
    there i l lt (inl before) =
        let same : slice_index (fs ++ b ∷ []) i ≡ slice_index fs i = get_or_append_left fs (b ∷ []) 0 i before in
        let w = o.there i before (omega arith) in
        let ne : slice_index fs i ≢ b = other_place (members free) b (slice_index fs i) h w.0 in
        subst (λ c. (members now c ≡ false) × (slice_index (slice_set at b (length fs)) c ≡ i)) (sym same)
        (left (slice_index fs i) ne ∙ w.0, elsewhere (slice_index fs i) ne ∙ w.1)
    there i l lt (inr past) =
        let e : length fs ≡ i = omega arith in
        let same : slice_index (fs ++ b ∷ []) i ≡ b = get_or_push fs b 0 i e in
        subst (λ c. (members now c ≡ false) × (slice_index (slice_set at b (length fs)) c ≡ i)) (sym same) (taken, here ∙ e)

-- the translations behind which one is filled
pub entries_pushed : (places : List TlbEntry) (fs at : List ℕ) (free b : ℕ) (e : TlbEntry) → AreOrdered fs at free → length places ≡ 64 → b < 64
    → members free b ≡ true → entries_of (slice_set places b e) (fs ++ b ∷ []) ≡ entries_of places fs ++ e ∷ []
entries_pushed places fs at free b e o full small h =
    pushed (filled_at (slice_set places b e)) fs b e (filled_here (slice_set places b e) b small ∙ ap Some here)
    ∙ ap (λ es. es ++ e ∷ []) (same_entries (filled_at (slice_set places b e)) (filled_at places) fs (λ i l. left i l (cases_lt (slice_index fs i) 64)))
  where
    none : TlbEntry
    none = entry_at [] 0

    here : entry_at (slice_set places b e) b ≡ e
    here = get_or-set_at places b b e none refl (omega (arith, full))

    left : (i : ℕ) → i < length fs → (slice_index fs i < 64) ⊎ (64 ≤ slice_index fs i)
        → filled_at (slice_set places b e) (slice_index fs i) ≡ filled_at places (slice_index fs i)
    left i l (inl lt) =
        let ne : slice_index fs i ≢ b = other_place (members free) b (slice_index fs i) h (o.there i l lt).0 in
        ap (λ x. if nat_lt (slice_index fs i) 64 then Some x else None) (get_or-set_other places b (slice_index fs i) e none ne)
    left i l (inr past) = filled_none (slice_set places b e) (slice_index fs i) past ∙ sym (filled_none places (slice_index fs i) past)

-- ---- the sets

pub no_sets : (sets : List ℕ) (places : List TlbEntry) (free : ℕ) → length sets ≡ 64 → length places ≡ 64
    → ((h : ℕ) → slice_index sets h ≡ 0) → ((b : ℕ) → members 0 b ≡ false) → ((b : ℕ) → b < 64 → members free b ≡ true) → AreSets sets places free
no_sets sets places free even full none empty all = record {
  even = even;
  full = full;
  within = λ h b l m. absurd (other_place (members (slice_index sets h)) b b m (ap (λ s. members s b) (none h) ∙ empty b) refl);
  all = λ b k. absurd (other_place (members free) b b (all b k.0) k.1 refl);
}

-- a place is dropped
pub sets_dropped : (sets : List ℕ) (places : List TlbEntry) (free now b h s : ℕ) → AreSets sets places free → IsHeld free b
    → h ≡ page_hash (page_at places b) → h < 64 → members s ≡ put (members (slice_index sets h)) b false
    → members now ≡ put (members free) b true → AreSets (slice_set sets h s) places now
sets_dropped sets places free now b h s w held e below less is = record {
  even = length-set sets h s ∙ w.even;
  full = w.full;
  within = λ k c l m. within k c l m (cases_eq k h);
  all = λ c k. all c k (cases_eq (page_hash (page_at places c)) h);
}
  where
    left : (c : ℕ) → c ≢ b → members now c ≡ members free c
    left c ne = ap (λ f. f c) is ∙ put_other (members free) b true c ne

    gone : members now b ≡ true
    gone = ap (λ f. f b) is ∙ put_same (members free) b true

    here : (k : ℕ) → k ≡ h → slice_index (slice_set sets h s) k ≡ s
    here k same = get_or-set_at sets h k s 0 same (omega (arith, w.even))

    elsewhere : (k : ℕ) → k ≢ h → slice_index (slice_set sets h s) k ≡ slice_index sets k
    elsewhere k ne = get_or-set_other sets h k s 0 ne

    member : (c : ℕ) → c ≢ b → members s c ≡ members (slice_index sets h) c
    member c ne = ap (λ f. f c) less ∙ put_other (members (slice_index sets h)) b false c ne

    none : members s b ≡ false
    none = ap (λ f. f b) less ∙ put_same (members (slice_index sets h)) b false

    within : (k c : ℕ) → k < 64 → members (slice_index (slice_set sets h s) k) c ≡ true → (k ≡ h) ⊎ (k ≢ h)
        → IsHeld now c × (page_hash (page_at places c) ≡ k)
    within k c l m (inl same) =
        let inside : members s c ≡ true = sym (ap (λ n. members n c) (here k same)) ∙ m in
        let ne : c ≢ b = λ f. other_place (members s) c b inside none (sym f) in
        let v = w.within h c below (sym (member c ne) ∙ inside) in
        ((v.0.0, left c ne ∙ v.0.1), v.1 ∙ sym same)
    within k c l m (inr other) =
        let v = w.within k c l (sym (ap (λ n. members n c) (elsewhere k other)) ∙ m) in
        let ne : c ≢ b = λ f. other (sym v.1 ∙ ap (λ n. page_hash (page_at places n)) f ∙ sym e) in
        ((v.0.0, left c ne ∙ v.0.1), v.1)

    all : (c : ℕ) → IsHeld now c → (page_hash (page_at places c) ≡ h) ⊎ (page_hash (page_at places c) ≢ h)
        → members (slice_index (slice_set sets h s) (page_hash (page_at places c))) c ≡ true
    all c k (inl same) =
        let ne : c ≢ b = other_place (members now) b c gone k.1 in
        let was = w.all c (k.0, sym (left c ne) ∙ k.1) in
        ap (λ n. members n c) (here (page_hash (page_at places c)) same) ∙ member c ne ∙ sym (ap (λ n. members (slice_index sets n) c) same) ∙ was
    all c k (inr other) =
        let ne : c ≢ b = other_place (members now) b c gone k.1 in
        ap (λ n. members n c) (elsewhere (page_hash (page_at places c)) other) ∙ w.all c (k.0, sym (left c ne) ∙ k.1)

-- a place is filled
pub sets_pushed : (sets : List ℕ) (places : List TlbEntry) (free now b h s : ℕ) (e : TlbEntry) → AreSets sets places free → b < 64
    → members free b ≡ true → h ≡ page_hash e.page → h < 64 → members s ≡ put (members (slice_index sets h)) b true
    → members now ≡ put (members free) b false → AreSets (slice_set sets h s) (slice_set places b e) now
sets_pushed sets places free now b h s e w small was hash below more is = record {
  even = length-set sets h s ∙ w.even;
  full = length-set places b e ∙ w.full;
  within = λ k c l m. within k c l m (cases_eq k h) (cases_eq c b);
  all = λ c k. all c k (cases_eq c b);
}
  where
    none : TlbEntry
    none = entry_at [] 0

    left : (c : ℕ) → c ≢ b → members now c ≡ members free c
    left c ne = ap (λ f. f c) is ∙ put_other (members free) b false c ne

    taken : members now b ≡ false
    taken = ap (λ f. f b) is ∙ put_same (members free) b false

    here : (k : ℕ) → k ≡ h → slice_index (slice_set sets h s) k ≡ s
    here k same = get_or-set_at sets h k s 0 same (omega (arith, w.even))

    elsewhere : (k : ℕ) → k ≢ h → slice_index (slice_set sets h s) k ≡ slice_index sets k
    elsewhere k ne = get_or-set_other sets h k s 0 ne

    new_page : page_hash (page_at (slice_set places b e) b) ≡ h
    new_page = ap (λ x. page_hash x.page) (get_or-set_at places b b e none refl (omega (arith, w.full))) ∙ sym hash

    old_page : (c : ℕ) → c ≢ b → page_hash (page_at (slice_set places b e) c) ≡ page_hash (page_at places c)
    old_page c ne = ap (λ x. page_hash x.page) (get_or-set_other places b c e none ne)

    member : (c : ℕ) → c ≢ b → members s c ≡ members (slice_index sets h) c
    member c ne = ap (λ f. f c) more ∙ put_other (members (slice_index sets h)) b true c ne

    inside : members s b ≡ true
    inside = ap (λ f. f b) more ∙ put_same (members (slice_index sets h)) b true

    within : (k c : ℕ) → k < 64 → members (slice_index (slice_set sets h s) k) c ≡ true → (k ≡ h) ⊎ (k ≢ h) → (c ≡ b) ⊎ (c ≢ b)
        → IsHeld now c × (page_hash (page_at (slice_set places b e) c) ≡ k)
    within k c l m (inl same) (inl f) =
        ((subst (λ n. n < 64) (sym f) small, ap (members now) f ∙ taken), ap (λ n. page_hash (page_at (slice_set places b e) n)) f ∙ new_page ∙ sym same)
    within k c l m (inl same) (inr ne) =
        let v = w.within h c below (sym (member c ne) ∙ sym (ap (λ n. members n c) (here k same)) ∙ m) in
        ((v.0.0, left c ne ∙ v.0.1), old_page c ne ∙ v.1 ∙ sym same)
    within k c l m (inr other) d =
        let v = w.within k c l (sym (ap (λ n. members n c) (elsewhere k other)) ∙ m) in
        let ne : c ≢ b = other_place (members free) b c was v.0.1 in
        ((v.0.0, left c ne ∙ v.0.1), old_page c ne ∙ v.1)

    all : (c : ℕ) → IsHeld now c → (c ≡ b) ⊎ (c ≢ b)
        → members (slice_index (slice_set sets h s) (page_hash (page_at (slice_set places b e) c))) c ≡ true
    all c k (inl f) =
        let at : page_hash (page_at (slice_set places b e) c) ≡ h = ap (λ n. page_hash (page_at (slice_set places b e) n)) f ∙ new_page in
        ap (λ n. members n c) (here (page_hash (page_at (slice_set places b e) c)) at) ∙ ap (members s) f ∙ inside
    all c k (inr ne) =
        let before = w.all c (k.0, sym (left c ne) ∙ k.1) in
        ap (λ n. members (slice_index (slice_set sets h s) n) c) (old_page c ne) ∙ by (cases_eq (page_hash (page_at places c)) h) before
      where
        by : (page_hash (page_at places c) ≡ h) ⊎ (page_hash (page_at places c) ≢ h)
            → members (slice_index sets (page_hash (page_at places c))) c ≡ true
            → members (slice_index (slice_set sets h s) (page_hash (page_at places c))) c ≡ true
        by (inl same) before =
            ap (λ n. members n c) (here (page_hash (page_at places c)) same) ∙ member c ne
            ∙ sym (ap (λ n. members (slice_index sets n) c) same) ∙ before
        by (inr other) before = ap (λ n. members n c) (elsewhere (page_hash (page_at places c)) other) ∙ before

-- ---- sets of places, as numbers

-- a set without one of its members is less, as a number
pub less_without : (s r b : ℕ) → r ≤ s → members r ≡ put (members s) b false → members s b ≡ true → r < s
less_without s r b le is m = by (cases_eq r s)
  where
    by : (r ≡ s) ⊎ (r ≢ s) → r < s
    by (inl e) = absurd (other_place (members s) b b m (sym (ap (λ n. members n b) e) ∙ ap (λ f. f b) is ∙ put_same (members s) b false) refl)
    by (inr ne) = omega arith

high_bit : (s j : ℕ) → s < 2 ^ 64 → 64 ≤ j → members s j ≡ false
high_bit s j h g =
    let wide : 2 ^ 64 ≤ 2 ^ j = pow_mono g in
    let less : s < 2 ^ j = omega arith in
    ap (λ n. n % 2 == 1) (div-eq_of_lt less)

-- a set that isn't 0 has some of the places
pub some_member : (s : ℕ) → 0 < s → s < 2 ^ 64 → 0 < count_below (members s) 64
some_member s some fits = by (cases_lt (trailing_zeros w64 s) 64)
  where
    by : (trailing_zeros w64 s < 64) ⊎ (64 ≤ trailing_zeros w64 s) → 0 < count_below (members s) 64
    by (inl lt) =
        let less = count_less (members s) (trailing_zeros w64 s) 64 lt (members-least s some fits) in
        omega arith
    by (inr past) = absurd (other_place (members s) (trailing_zeros w64 s) (trailing_zeros w64 s) (members-least s some fits)
        (high_bit s (trailing_zeros w64 s) fits past) refl)

pub count_empty : count_below (members 0) 64 ≡ 0
count_empty = count_none (members 0) 64 members-empty

-- ---- what a page has

-- the translation of a held place's page
pub page_found : (places : List TlbEntry) (fs at : List ℕ) (free b p : ℕ) → AreOrdered fs at free → are_distinct (entries_of places fs) ≡ true
    → IsHeld free b → page_at places b ≡ p → tlb_at (entries_of places fs) p ≡ Some (entry_at places b).translation
page_found places fs at free b p o d h same =
    let v = o.held b h in
    there (filled_at places) fs p (slice_index at b) (entry_at places b) d v.0 (ap (filled_at places) v.1 ∙ filled_here places b h.0) same

pub page_missing : (places : List TlbEntry) (fs at : List ℕ) (free p : ℕ) → AreOrdered fs at free
    → ((b : ℕ) → IsHeld free b → page_at places b ≢ p) → tlb_at (entries_of places fs) p ≡ None
page_missing places fs at free p o none = not_there (filled_at places) fs p (λ i e l h. by i e l h (cases_lt (slice_index fs i) 64))
  where
    apart : (e : TlbEntry) → ◌≡◌ {A = Option TlbEntry} None (Some e) → ⊥
    apart e h = absurd cc

    by : (i : ℕ) (e : TlbEntry) → i < length fs → filled_at places (slice_index fs i) ≡ Some e → (slice_index fs i < 64) ⊎ (64 ≤ slice_index fs i)
        → e.page ≢ p
    by i e l h (inl lt) = λ same.
        let b = slice_index fs i in
        let is : entry_at places b ≡ e = ap (λ o. unwrap_or o e) (sym (filled_here places b lt) ∙ h) in
        none b (lt, (o.there i l lt).0) (ap (λ x. x.page) is ∙ same)
    by i e l h (inr past) = absurd (apart e (sym (filled_none places (slice_index fs i) past) ∙ h))

-- no place has a page that none of its hash's set has
pub set_missing : (sets : List ℕ) (places : List TlbEntry) (free p : ℕ) → AreSets sets places free
    → ((b : ℕ) → members (slice_index sets (page_hash p)) b ≡ true → page_at places b ≢ p) → (b : ℕ) → IsHeld free b → page_at places b ≢ p
set_missing sets places free p w none b h = λ same.
    none b (subst (λ q. members (slice_index sets (page_hash q)) b ≡ true) same (w.all b h)) same

-- a walk over a set has the members that are left, and none of the others has the page
pub record IsPassed (set : ℕ) (places : List TlbEntry) (p rest : ℕ) : Type 0 where
  pub part : (b : ℕ) → members rest b ≡ true → members set b ≡ true
  pub passed : (b : ℕ) → members set b ≡ true → members rest b ≡ false → page_at places b ≢ p

pub none_passed : (set : ℕ) (places : List TlbEntry) (p : ℕ) → IsPassed set places p set
none_passed set places p = record {
  part = λ b m. m;
  passed = λ b m n. absurd (other_place (members set) b b m n refl);
}

pub one_passed : (set : ℕ) (places : List TlbEntry) (p rest b now : ℕ) → IsPassed set places p rest → members now ≡ put (members rest) b false
    → page_at places b ≢ p → IsPassed set places p now
one_passed set places p rest b now w is ne = record {
  part = λ c m. part c m (cases_eq c b);
  passed = λ c m n. passed c m n (cases_eq c b);
}
  where
    none : members now b ≡ false
    none = ap (λ f. f b) is ∙ put_same (members rest) b false

    left : (c : ℕ) → c ≢ b → members now c ≡ members rest c
    left c d = ap (λ f. f c) is ∙ put_other (members rest) b false c d

    part : (c : ℕ) → members now c ≡ true → (c ≡ b) ⊎ (c ≢ b) → members set c ≡ true
    part c m (inl same) = absurd (other_place (members now) c b m none (sym same))
    part c m (inr d) = w.part c (sym (left c d) ∙ m)

    passed : (c : ℕ) → members set c ≡ true → members now c ≡ false → (c ≡ b) ⊎ (c ≢ b) → page_at places c ≢ p
    passed c m n (inl same) = λ e. ne (sym (ap (page_at places) same) ∙ e)
    passed c m n (inr d) = w.passed c m (sym (left c d) ∙ n)

pub all_passed : (set : ℕ) (places : List TlbEntry) (p : ℕ) → IsPassed set places p 0 → (b : ℕ) → members set b ≡ true → page_at places b ≢ p
all_passed set places p w b m = w.passed b m (members-empty b)

-- ---- a TLB with room, and without

pub full_here : (n free : ℕ) → n + count_below (members free) 64 ≡ 64 → free ≡ 0 → n ≡ 64
full_here n free counted e =
    let none : count_below (members free) 64 ≡ 0 = ap (λ s. count_below (members s) 64) e ∙ count_empty in
    omega arith

pub room_here : (n free : ℕ) → n + count_below (members free) 64 ≡ 64 → free ≢ 0 → free < 2 ^ 64 → n < 64
room_here n free counted ne fits =
    let some : 0 < count_below (members free) 64 = some_member free (omega arith) fits in
    omega arith

pub filled_full : (p : ℕ) (t : Translation) (es : List TlbEntry) → length es ≡ 64 → drop 1 es ++ record { page = p; translation = t } ∷ [] ≡ tlb_filled p t es
filled_full p t es e =
    let test : (length es == 64) ≡ true = grind (arith, nat_tests) in
    sym (ap (λ b. (if b then drop 1 es else es) ++ record { page = p; translation = t } ∷ []) test)

pub filled_room : (p : ℕ) (t : Translation) (es : List TlbEntry) → length es < 64 → es ++ record { page = p; translation = t } ∷ [] ≡ tlb_filled p t es
filled_room p t es l =
    let test : (length es == 64) ≡ false = grind (arith, nat_tests) in
    sym (ap (λ b. (if b then drop 1 es else es) ++ record { page = p; translation = t } ∷ []) test)

-- ---- what one dropped place leaves

pub stands_for : (places : List TlbEntry) (fs at : List ℕ) (free b : ℕ) → AreOrdered fs at free → IsHeld free b
    → filled_at places (slice_index fs (slice_index at b)) ≡ Some (entry_at places b)
stands_for places fs at free b o h = ap (filled_at places) (o.held b h).1 ∙ filled_here places b h.0

pub place_left : (places : List TlbEntry) (fs at : List ℕ) (free b : ℕ) → AreOrdered fs at free → are_distinct (entries_of places fs) ≡ true → IsHeld free b
    → entries_of places (slice_set fs (slice_index at b) 64) ≡ tlb_without (is_at (page_at places b)) (entries_of places fs)
place_left places fs at free b o d h =
    page_left (filled_at places) fs (slice_index at b) 64 (entry_at places b) d refl (o.held b h).0 (stands_for places fs at free b o h)

pub place_less : (places : List TlbEntry) (fs at : List ℕ) (free b : ℕ) → AreOrdered fs at free → IsHeld free b
    → length (entries_of places (slice_set fs (slice_index at b) 64)) + 1 ≡ length (entries_of places fs)
place_less places fs at free b o h =
    one_less (filled_at places) fs (slice_index at b) 64 (entry_at places b) refl (o.held b h).0 (stands_for places fs at free b o h)

pub room_free : (n free : ℕ) → n + count_below (members free) 64 ≡ 64 → n < 64 → 0 < free
room_free n free counted l = by (cases_eq free 0)
  where
    by : (free ≡ 0) ⊎ (free ≢ 0) → 0 < free
    by (inl e) =
        let full : n ≡ 64 = full_here n free counted e in
        absurd (omega arith)
    by (inr ne) = omega arith

-- the first place of an order
pub oldest_held : (places : List TlbEntry) (fs at : List ℕ) (free i : ℕ) → AreOrdered fs at free → NoneBefore i fs → 0 < length (entries_of places fs)
    → (i < length fs → slice_index fs i < 64) → (i < length fs) × IsHeld free (slice_index fs i) × (slice_index at (slice_index fs i) ≡ i)
oldest_held places fs at free i o gone some place =
    let here = some_left (filled_at places) fs i (filled_none places) gone some in
    let v = o.there i here (place here) in
    (here, (place here, v.0), v.1)
