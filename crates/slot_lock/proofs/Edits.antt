-- A slot of a list written in its place
use Rattle.slot_lock.proofs.Words.{◌≡◌, ◌≢◌, ℕ, ◌+◌, ◌-◌, ◌^◌, ◌<◌, ◌≤◌, ◌==◌, ◌⊎◌, inl, inr, ⊎_elim, true, false, cond, List, length, set, is_some, refl}
use Rattle.slot_lock.proofs.Words.{sym, ◌∙◌, ap, arith, cases_lt, cases_eq, nat_tests, length-set, get_or-set_same, PageRange, has, info_from, info_file_page}
use Rattle.slot_lock.proofs.Words.{is_leaf, by_test, has_in, in_has}
use Rattle.std.proofs.lemmas.List.{get_or-set_other}
use Rattle.slot_lock.specs.declared.slot.Slot.{Slot}
use Rattle.slot_lock.specs.Adding.{IsSoundSlot, filled}
use Rattle.slot_lock.specs.SlotList.{IsSlotList, HasPageAt, IsInner, get_slot, slot_at, empty_slot}
use Rattle.slot_lock.specs.Slots.{Slots, between}
use Rattle.slot_lock.specs.ListedSlots.{slots_of}
use Rattle.slot_lock.proofs.Facts.{two, same_test, other_test}
use Rattle.slot_lock.proofs.Places.{found, slot_at_is}

-- ---- tests of ranges

pub has_below : (range : PageRange) (p : ℕ) → p < range.first → has range p ≡ false
has_below range p h = grind (arith, nat_tests)

pub has_above : (range : PageRange) (p : ℕ) → range.end ≤ p → has range p ≡ false
has_above range p h = grind (arith, nat_tests)

-- a page that isn't in the range is below or above it
pub has_not : (range : PageRange) (p : ℕ) → has range p ≡ false → (p < range.first) ⊎ (range.end ≤ p)
has_not range p h = ⊎_elim
    (λ (l : p < range.first). inl l)
    (λ (l : range.first ≤ p). ⊎_elim (λ (m : p < range.end). absurd (two _ h (in_has range p l m))) (λ (m : range.end ≤ p). inr m) (cases_lt p range.end))
    (cases_lt p range.first)

pub has_one : (page p : ℕ) → has (between page (page + 1)) p ≡ (p == page)
has_one page p = ⊎_elim
    (λ (e : p ≡ page). in_has (between page (page + 1)) p (omega arith) (omega arith) ∙ sym (same_test p page e))
    (λ (ne : p ≢ page). outside ne ∙ sym (other_test p page ne))
    (cases_eq p page)
  where
    outside : p ≢ page → has (between page (page + 1)) p ≡ false
    outside ne = ⊎_elim
        (λ (l : p < page). has_below (between page (page + 1)) p l)
        (λ (l : page ≤ p). has_above (between page (page + 1)) p (omega arith))
        (cases_lt p page)

-- maps that say the same of each page are one
pub same_slots : (s t : Slots) → ((p : ℕ) → t.info p ≡ s.info p) → ((p : ℕ) → t.owner p ≡ s.owner p) → ((p : ℕ) → t.edge p ≡ s.edge p) → t ≡ s
same_slots s t info owner edge = λ j. record { info = λ p. info p j; owner = λ p. owner p j; edge = λ p. edge p j }

-- ---- the list

-- the slot at i can be this one, which begins where that began
pub record CanBe (rs : List Slot) (i : ℕ) (x : Slot) : Type 0 where
  pub inner : IsInner rs i
  pub start : x.start ≡ (get_slot rs i).start
  pub sound : IsSoundSlot (get_slot rs i).start (get_slot rs (i + 1)).start x.info

there : (rs : List Slot) (i : ℕ) (x : Slot) → CanBe rs i x → get_slot (set rs i x) i ≡ x
there rs i x w = get_or-set_same rs i x empty_slot (omega (arith, w.inner.before_last))

pub elsewhere : (rs : List Slot) (i k : ℕ) (x : Slot) → k ≢ i → get_slot (set rs i x) k ≡ get_slot rs k
elsewhere rs i k x ne = get_or-set_other rs i k x empty_slot ne

-- what the new slot has as the old one had it
pub kept_at : {X : Type 0} (rs : List Slot) (i : ℕ) (x : Slot) → CanBe rs i x → (P : Slot → X) → P x ≡ P (get_slot rs i) → (k : ℕ)
    → P (get_slot (set rs i x) k) ≡ P (get_slot rs k)
kept_at rs i x w P same k = ⊎_elim
    (λ (e : k ≡ i). rw e (ap P (there rs i x w) ∙ same))
    (λ (ne : k ≢ i). ap P (elsewhere rs i k x ne))
    (cases_eq k i)

pub set-IsSlotList : (rs : List Slot) → IsSlotList rs → (i : ℕ) (x : Slot) → CanBe rs i x → IsSlotList (set rs i x)
set-IsSlotList rs ok i x w =
    let n = length-set rs i x in
    let start : (k : ℕ) → (get_slot (set rs i x) k).start ≡ (get_slot rs k).start = kept_at rs i x w (λ r. r.start) w.start in
    let last : length (set rs i x) - 1 ≡ length rs - 1 = omega arith in
    let zero_is = elsewhere rs i 0 x (omega (arith, w.inner.after_first)) in
    let last_is = elsewhere rs i (length rs - 1) x (omega (arith, w.inner.before_last)) in
    record {
      some = omega (arith, ok.some);
      rising = λ k l. let a = start k in let b = start (k + 1) in let r = ok.rising k (omega arith) in omega (arith, a, b, r);
      zero_first = start 0 ∙ ok.zero_first;
      one_second = start 1 ∙ ok.one_second;
      zero_unmapped = ap (λ (r : Slot). is_some r.info) zero_is ∙ ok.zero_unmapped;
      zero_free = ap (λ (r : Slot). is_some r.owner) zero_is ∙ ok.zero_free;
      limit_last = rw last (start (length rs - 1) ∙ ok.limit_last);
      limit_unmapped = rw last (ap (λ (r : Slot). is_some r.info) last_is ∙ ok.limit_unmapped);
      limit_free = rw last (ap (λ (r : Slot). is_some r.owner) last_is ∙ ok.limit_free);
      fits = λ k l. let m : k + 1 < length rs = omega arith in rw (start k, start (k + 1)) (fits_at k m);
      alone = λ k l leaf. let m : k + 1 < length rs = omega arith in rw (start k, start (k + 1)) (alone_at k m leaf);
    }
  where
    fits_at : (k : ℕ) → k + 1 < length rs
        → info_file_page (get_slot (set rs i x) k).info + ((get_slot rs (k + 1)).start - (get_slot rs k).start) ≤ 2 ^ 35
    fits_at k l = ⊎_elim
        (λ (e : k ≡ i). rw e (rw (there rs i x w) w.sound.fits))
        (λ (ne : k ≢ i). rw (elsewhere rs i k x ne) (ok.fits k l))
        (cases_eq k i)

    alone_at : (k : ℕ) → k + 1 < length rs → is_leaf (get_slot (set rs i x) k).info ≡ true
        → (get_slot rs (k + 1)).start ≡ (get_slot rs k).start + 1
    alone_at k l leaf = ⊎_elim
        (λ (e : k ≡ i). rw e (w.sound.alone (sym (ap (λ (r : Slot). is_leaf r.info) (ap (get_slot (set rs i x)) e ∙ there rs i x w)) ∙ leaf)))
        (λ (ne : k ≢ i). ok.alone k l (sym (ap (λ (r : Slot). is_leaf r.info) (elsewhere rs i k x ne)) ∙ leaf))
        (cases_eq k i)

-- ---- its pages

-- each page is in the slot at the same place as before
set_at : (rs : List Slot) → IsSlotList rs → (i : ℕ) (x : Slot) → CanBe rs i x → (p j : ℕ) → HasPageAt rs p j
    → slot_at (set rs i x) p ≡ get_slot (set rs i x) j
set_at rs ok i x w p j at =
    let n = length-set rs i x in
    let start : (k : ℕ) → (get_slot (set rs i x) k).start ≡ (get_slot rs k).start = kept_at rs i x w (λ r. r.start) w.start in
    slot_at_is (set rs i x) (set-IsSlotList rs ok i x w) p j (record {
      within = omega (arith, at.within);
      from = rw (start j) at.from;
      until = λ l. rw (start (j + 1)) (at.until (omega arith));
    })

-- what stays where the new slot has it as the old one had it
pub set_keeps : {X : Type 0} (rs : List Slot) → IsSlotList rs → (i : ℕ) (x : Slot) → CanBe rs i x → (P : Slot → X)
    → P x ≡ P (get_slot rs i) → (p : ℕ) → P (slot_at (set rs i x) p) ≡ P (slot_at rs p)
set_keeps rs ok i x w P same p =
    let f = found rs ok p in
    ap P (set_at rs ok i x w p f.at f.is) ∙ kept_at rs i x w P same f.at ∙ sym (ap P f.slot)

-- a value of each page's slot
pub set_each : {X : Type 0} (rs : List Slot) → IsSlotList rs → (i : ℕ) (x : Slot) → CanBe rs i x → (P : Slot → X) (p : ℕ) (v : X)
    → (has (between (get_slot rs i).start (get_slot rs (i + 1)).start) p ≡ true → P x ≡ v)
    → P (slot_at (set rs i x) p) ≡ cond (has (between (get_slot rs i).start (get_slot rs (i + 1)).start) p) v (P (slot_at rs p))
set_each rs ok i x w P p v e = by_test (λ y. P (slot_at (set rs i x) p) ≡ y) (has range p) v (P (slot_at rs p)) inside outside
  where
    range : PageRange
    range = between (get_slot rs i).start (get_slot rs (i + 1)).start

    inside : has range p ≡ true → P (slot_at (set rs i x) p) ≡ v
    inside t =
        let b = has_in range p t in
        ap P (set_at rs ok i x w p i (record { within = omega (arith, w.inner.before_last); from = b.0; until = λ _. b.1 }) ∙ there rs i x w) ∙ e t

    outside : has range p ≡ false → P (slot_at (set rs i x) p) ≡ P (slot_at rs p)
    outside t =
        let f = found rs ok p in
        let ne : f.at ≢ i = (λ same. apart (rw same at f.is) (has_not range p t)) in
        ap P (set_at rs ok i x w p f.at f.is ∙ elsewhere rs i f.at x ne ∙ sym f.slot)
      where
        apart : HasPageAt rs p i → (p < range.first) ⊎ (range.end ≤ p) → ⊥
        apart at (inl l) = omega (arith, at.from, l)
        apart at (inr l) = let u = at.until w.inner.before_last in omega (arith, u, l)

pub set_edge : (rs : List Slot) → IsSlotList rs → (i : ℕ) (x : Slot) → CanBe rs i x → (p : ℕ) → (slots_of (set rs i x)).edge p ≡ (slots_of rs).edge p
set_edge rs ok i x w p = set_keeps rs ok i x w (λ r. r.start == p) (ap (λ n. n == p) w.start) p

pub slots_of-set : (rs : List Slot) → IsSlotList rs → (i : ℕ) (x : Slot) → CanBe rs i x
    → slots_of (set rs i x) ≡ filled (slots_of rs) (get_slot rs i).start (get_slot rs (i + 1)).start x.owner x.info
slots_of-set rs ok i x w = same_slots _ _
    (λ p. set_each rs ok i x w (λ r. info_from r.info (p - r.start)) p (info_from x.info (p - (get_slot rs i).start))
    (λ _. ap (λ n. info_from x.info (p - n)) w.start))
    (λ p. set_each rs ok i x w (λ r. r.owner) p x.owner (λ _. refl))
    (set_edge rs ok i x w)
