-- A slot cut in two
use Rattle.slot_lock.proofs.Words.{◌≡◌, ◌≢◌, ℕ, ◌+◌, ◌-◌, ◌^◌, ◌<◌, ◌≤◌, ◌==◌, ◌⊎◌, inl, inr, ⊎_elim, true, List, length, is_some, refl, sym, ◌∙◌, ap, arith}
use Rattle.slot_lock.proofs.Words.{cases_lt, cases_eq, PageRange, has, info_from, info_file_page, is_leaf, by_test, has_in, eq_true}
use Rattle.std.proofs.lemmas.List.Edits.{length-insert, get_or-insert_below, get_or-insert_at, get_or-insert_above}
use Rattle.slot_lock.specs.declared.slot.Slot.{Slot}
use Rattle.slot_lock.specs.SlotList.{IsSlotList, IsInsideSlot, get_slot, slot_at, empty_slot, tail_from, cut_list}
use Rattle.slot_lock.proofs.Places.{Found, found, slot_at_is}
use Rattle.slot_lock.specs.Slots.{Divides, DividesAs, divided, between}
use Rattle.slot_lock.specs.ListedSlots.{slots_of, two_parts}
use Rattle.slot_lock.proofs.ListLaws.{info_from_twice, file_page_on, is_leaf-info_from, is_slot}
use Rattle.slot_lock.proofs.Edits.{has_not, same_slots}
use Rattle.slot_lock.proofs.Facts.{same_test, other_test}

pub below : (rs : List Slot) (i at : ℕ) → IsInsideSlot rs i at → (k : ℕ) → k ≤ i → get_slot (cut_list rs i at) k ≡ get_slot rs k
below rs i at h k l = get_or-insert_below rs (i + 1) (tail_from (get_slot rs i) at) empty_slot k (omega arith) (omega (arith, h.inner.before_last))

pub here : (rs : List Slot) (i at : ℕ) → IsInsideSlot rs i at → get_slot (cut_list rs i at) (i + 1) ≡ tail_from (get_slot rs i) at
here rs i at h = get_or-insert_at rs (i + 1) (tail_from (get_slot rs i) at) empty_slot (omega (arith, h.inner.before_last))

pub above : (rs : List Slot) (i at : ℕ) → IsInsideSlot rs i at → (k : ℕ) → i + 1 ≤ k → get_slot (cut_list rs i at) (k + 1) ≡ get_slot rs k
above rs i at h k l = get_or-insert_above rs (i + 1) (tail_from (get_slot rs i) at) empty_slot k l (omega (arith, h.inner.before_last))

pub longer : (rs : List Slot) (i at : ℕ) → IsInsideSlot rs i at → length (cut_list rs i at) ≡ length rs + 1
longer rs i at h = length-insert rs (i + 1) (tail_from (get_slot rs i) at) (omega (arith, h.inner.before_last))

-- a place of the cut list: as before, the new one, or one further
data At (i k : ℕ) : Type 0 where
  before : k ≤ i → At i k
  new : k ≡ i + 1 → At i k
  after : (j : ℕ) → i + 1 ≤ j → k ≡ j + 1 → At i k

which : (i k : ℕ) → At i k
which i k = ⊎_elim (λ l. before (omega arith)) (λ l. ⊎_elim (λ m. new (omega arith)) (λ m. after (k - 1) (omega arith) (omega arith))
    (cases_lt k (i + 2))) (cases_lt k (i + 1))

pub along_both : (P : Slot → Slot → Type 0) (a b c d : Slot) → a ≡ c → b ≡ d → P c d → P a b
along_both P a b c d e f p = rw (e, f) p

get_same : (rs : List Slot) (j k : ℕ) → j ≡ k → get_slot rs j ≡ get_slot rs k
get_same rs j k e = ap (get_slot rs) e

-- what holds of each slot and the next
each_next : (P : Slot → Slot → Type 0) (rs : List Slot) (i at : ℕ) → (h : IsInsideSlot rs i at)
    → ((k : ℕ) → k + 1 < length rs → P (get_slot rs k) (get_slot rs (k + 1))) → P (get_slot rs i) (tail_from (get_slot rs i) at)
    → P (tail_from (get_slot rs i) at) (get_slot rs (i + 1)) → (k : ℕ) → k + 1 < length (cut_list rs i at)
    → P (get_slot (cut_list rs i at) k) (get_slot (cut_list rs i at) (k + 1))
each_next P rs i at h old to from k l = elim (which i (k + 1)) as (λ _. P (get_slot (cut_list rs i at) k) (get_slot (cut_list rs i at) (k + 1))) [
  | before b ↦ along_both P _ _ _ _ (below rs i at h k (omega arith)) (below rs i at h (k + 1) b) (old k (omega (arith, h.inner.before_last)))
  | new e ↦ let k_is : k ≡ i = omega arith in along_both P _ _ _ _ (get_same _ _ _ k_is ∙ below rs i at h i (omega arith))
      (get_same _ _ _ e ∙ here rs i at h) to
  | after j b e ↦ elim (which i k) as (λ _. P (get_slot (cut_list rs i at) k) (get_slot (cut_list rs i at) (k + 1))) [
    | before c ↦ absurd (omega arith)
    | new f ↦
        let j_is : j ≡ i + 1 = omega arith in
        along_both P _ _ _ _ (get_same _ _ _ f ∙ here rs i at h) (get_same _ _ _ e ∙ (above rs i at h j b ∙ get_same _ _ _ j_is)) from
    | after m c f ↦
        let j_is : j ≡ m + 1 = omega arith in
        let n = longer rs i at h in
        along_both P _ _ _ _ (get_same _ _ _ f ∙ above rs i at h m c) (get_same _ _ _ e ∙ (above rs i at h j b ∙ get_same _ _ _ j_is)) (old m (omega arith))
  ]
]

not_leaf : (rs : List Slot) → IsSlotList rs → (i at : ℕ) → IsInsideSlot rs i at → is_leaf (get_slot rs i).info ≡ true → ⊥
not_leaf rs ok i at h l = let e = ok.alone i h.inner.before_last l in omega (arith, h.above, h.below)

pub cut_list-IsSlotList : (rs : List Slot) → IsSlotList rs → (i at : ℕ) → IsInsideSlot rs i at → IsSlotList (cut_list rs i at)
cut_list-IsSlotList rs ok i at h =
    let n = longer rs i at h in
    let fits = ok.fits i h.inner.before_last in
    let last : length (cut_list rs i at) - 1 ≡ length rs - 1 + 1 = omega (arith, ok.some) in
    let end = get_same (cut_list rs i at) _ _ last ∙ above rs i at h (length rs - 1) (omega (arith, h.inner.before_last)) in
    let zero_is = below rs i at h 0 (omega arith) in
    record {
      some = omega (arith, ok.some);
      rising = each_next (λ r s. r.start < s.start) rs i at h ok.rising h.above h.below;
      zero_first = ap (λ (r : Slot). r.start) zero_is ∙ ok.zero_first;
      one_second = ap (λ (r : Slot). r.start) (below rs i at h 1 h.inner.after_first) ∙ ok.one_second;
      zero_unmapped = ap (λ (r : Slot). is_some r.info) zero_is ∙ ok.zero_unmapped;
      zero_free = ap (λ (r : Slot). is_some r.owner) zero_is ∙ ok.zero_free;
      limit_last = ap (λ (r : Slot). r.start) end ∙ ok.limit_last;
      limit_unmapped = ap (λ (r : Slot). is_some r.info) end ∙ ok.limit_unmapped;
      limit_free = ap (λ (r : Slot). is_some r.owner) end ∙ ok.limit_free;
      fits = each_next (λ r s. info_file_page r.info + (s.start - r.start) ≤ 2 ^ 35) rs i at h ok.fits
          (omega (arith, fits, h.above, h.below))
          (omega (arith, fits, h.above, h.below, file_page_on (get_slot rs i).info (at - (get_slot rs i).start)));
      alone = each_next (λ r s. is_leaf r.info ≡ true → s.start ≡ r.start + 1) rs i at h ok.alone
          (λ l. absurd (not_leaf rs ok i at h l))
          (λ l. absurd (not_leaf rs ok i at h (sym (is_leaf-info_from (get_slot rs i).info (at - (get_slot rs i).start)) ∙ l)));
    }

-- where a page is after a cut: in the slot that it was in, or in the new one, cut off that slot
data Moved (rs : List Slot) (i at p : ℕ) : Type 0 where
  stays : slot_at (cut_list rs i at) p ≡ slot_at rs p → Moved rs i at p
  moves : at ≤ p → slot_at rs p ≡ get_slot rs i → slot_at (cut_list rs i at) p ≡ tail_from (get_slot rs i) at → Moved rs i at p

moved : (rs : List Slot) → IsSlotList rs → (i at : ℕ) → IsInsideSlot rs i at → (p : ℕ) → Moved rs i at p
moved rs ok i at h p = go (found rs ok p)
  where
    cut_ok : IsSlotList (cut_list rs i at)
    cut_ok = cut_list-IsSlotList rs ok i at h

    n : length (cut_list rs i at) ≡ length rs + 1
    n = longer rs i at h

    lower : (f : Found rs p) → f.at < i → Moved rs i at p
    lower f l = stays (slot_at_is _ cut_ok p f.at (record {
      within = omega (arith, n, f.is.within);
      from = rw (below rs i at h f.at (omega arith)) f.is.from;
      until = λ _. rw (below rs i at h (f.at + 1) (omega arith)) (f.is.until (omega (arith, h.inner.before_last)));
    }) ∙ (below rs i at h f.at (omega arith) ∙ sym f.slot))

    same : (f : Found rs p) → f.at ≡ i → Moved rs i at p
    same f e = ⊎_elim
        (λ (l : p < at). stays (slot_at_is _ cut_ok p i (record {
          within = omega (arith, n, h.inner.before_last);
          from = rw (below rs i at h i (omega arith)) (rw e at f.is.from);
          until = λ _. rw (here rs i at h) l;
        }) ∙ (below rs i at h i (omega arith) ∙ (sym (get_same rs _ _ e) ∙ sym f.slot))))
        (λ (l : at ≤ p). moves l (f.slot ∙ get_same rs _ _ e) (slot_at_is _ cut_ok p (i + 1) (record {
          within = omega (arith, n, h.inner.before_last);
          from = rw (here rs i at h) l;
          until = λ _. rw (above rs i at h (i + 1) (omega arith)) (rw e at (f.is.until (omega (arith, h.inner.before_last))));
        }) ∙ here rs i at h))
        (cases_lt p at)

    higher : (f : Found rs p) → i < f.at → Moved rs i at p
    higher f l = stays (slot_at_is _ cut_ok p (f.at + 1) (record {
      within = omega (arith, n, f.is.within);
      from = rw (above rs i at h f.at (omega arith)) f.is.from;
      until = λ m. rw (above rs i at h (f.at + 1) (omega arith)) (f.is.until (omega (arith, n)));
    }) ∙ (above rs i at h f.at (omega arith) ∙ sym f.slot))

    go : Found rs p → Moved rs i at p
    go f = ⊎_elim (λ (l : f.at < i). lower f l) (λ (l : i ≤ f.at). ⊎_elim (λ (m : i < f.at). higher f m)
        (λ (m : f.at ≤ i). same f (omega arith)) (cases_lt i f.at)) (cases_lt f.at i)

pub cut_list-Divides : (rs : List Slot) → IsSlotList rs → (i at : ℕ) → IsInsideSlot rs i at
    → Divides (slots_of rs) (slots_of (cut_list rs i at)) (get_slot rs i).owner at
cut_list-Divides rs ok i at h = record {
  info = λ j p. same_info p (moved rs ok i at h p) j;
  owners = λ j p. same_owner p (moved rs ok i at h p) j;
  kept = λ p e. kept p (moved rs ok i at h p) e;
  was_inside = rw old_at (other_test _ _ (omega (arith, h.above)));
  begins = rw new_at (same_test _ _ refl);
  elsewhere = λ p ne. elsewhere p (moved rs ok i at h p) ne;
}
  where
    old_at : slot_at rs at ≡ get_slot rs i
    old_at = slot_at_is rs ok at i (record { within = omega (arith, h.inner.before_last); from = omega (arith, h.above); until = λ _. h.below })

    new_at : slot_at (cut_list rs i at) at ≡ tail_from (get_slot rs i) at
    new_at = slot_at_is _ (cut_list-IsSlotList rs ok i at h) at (i + 1) (record {
      within = let n = longer rs i at h in omega (arith, h.inner.before_last);
      from = rw (here rs i at h) (omega arith);
      until = λ _. rw (above rs i at h (i + 1) (omega arith)) h.below;
    }) ∙ here rs i at h

    same_info : (p : ℕ) → Moved rs i at p → (slots_of (cut_list rs i at)).info p ≡ (slots_of rs).info p
    same_info p (stays e) = ap (λ (r : Slot). info_from r.info (p - r.start)) e
    same_info p (moves l f e) =
        let n : at - (get_slot rs i).start + (p - at) ≡ p - (get_slot rs i).start = omega (arith, h.above) in
        rw (e, f) (info_from_twice (get_slot rs i).info (at - (get_slot rs i).start) (p - at) ∙ ap (info_from (get_slot rs i).info) n)

    same_owner : (p : ℕ) → Moved rs i at p → (slots_of (cut_list rs i at)).owner p ≡ (slots_of rs).owner p
    same_owner p (stays e) = ap (λ (r : Slot). r.owner) e
    same_owner p (moves l f e) = rw (e, f) refl

    kept : (p : ℕ) → Moved rs i at p → (slots_of rs).edge p ≡ true → (slots_of (cut_list rs i at)).edge p ≡ true
    kept p (stays e) k = rw e k
    kept p (moves l f e) k = let s = eq_true _ _ (rw f at k) in absurd (omega (arith, h.above))

    elsewhere : (p : ℕ) → Moved rs i at p → (slots_of rs).owner p ≢ (get_slot rs i).owner → (slots_of (cut_list rs i at)).edge p ≡ (slots_of rs).edge p
    elsewhere p (stays e) ne = rw e refl
    elsewhere p (moves l f e) ne = absurd (ne (ap (λ (r : Slot). r.owner) f))

-- no other slot begins or ceases to begin
pub cut_edge : (rs : List Slot) → IsSlotList rs → (i at : ℕ) → IsInsideSlot rs i at → (p : ℕ) → p ≢ at → (slots_of (cut_list rs i at)).edge p ≡ (slots_of rs).edge p
cut_edge rs ok i at h p ne = go (moved rs ok i at h p)
  where
    go : Moved rs i at p → (slots_of (cut_list rs i at)).edge p ≡ (slots_of rs).edge p
    go (stays e) = rw e refl
    go (moves l f e) = rw (e, f) (other_test at p (λ same. ne (sym same)) ∙ sym (other_test (get_slot rs i).start p (omega (arith, h.above))))

pub cut_list-DividesAs : (rs : List Slot) → IsSlotList rs → (i at : ℕ) → IsInsideSlot rs i at → DividesAs two_parts (slots_of rs) (slots_of (cut_list rs i at)) at
cut_list-DividesAs rs ok i at h = record {
  slot = slot;
  is_slot = is_slot rs ok i h.inner.before_last;
  above = h.above;
  below = h.below;
  now = same_slots _ _ (λ p. ap (λ f. f p) d.info) (λ p. ap (λ f. f p) d.owners) edge;
}
  where
    slot : PageRange
    slot = between (get_slot rs i).start (get_slot rs (i + 1)).start

    d : Divides (slots_of rs) (slots_of (cut_list rs i at)) (get_slot rs i).owner at
    d = cut_list-Divides rs ok i at h

    inner : (p : ℕ) → (get_slot rs i).start < p → p < (get_slot rs (i + 1)).start → (slots_of (cut_list rs i at)).edge p ≡ (p == at)
    inner p a b = ⊎_elim
        (λ (e : p ≡ at). rw e d.begins ∙ sym (same_test p at e))
        (λ (ne : p ≢ at). cut_edge rs ok i at h p ne ∙ ((is_slot rs ok i h.inner.before_last).inside p a b ∙ sym (other_test p at ne)))
        (cases_eq p at)

    outer : (p : ℕ) → (p < (get_slot rs i).start + 1) ⊎ ((get_slot rs (i + 1)).start ≤ p) → p ≢ at
    outer p (inl l) = omega (arith, h.above)
    outer p (inr l) = omega (arith, h.below)

    edge : (p : ℕ) → (slots_of (cut_list rs i at)).edge p ≡ (divided (slots_of rs) slot (two_parts slot at)).edge p
    edge p = by_test (λ x. (slots_of (cut_list rs i at)).edge p ≡ x) (has (between (slot.first + 1) slot.end) p) _ _
        (λ t. let b = has_in (between (slot.first + 1) slot.end) p t in inner p (omega (arith, b.0)) b.1)
        (λ t. cut_edge rs ok i at h p (outer p (has_not (between (slot.first + 1) slot.end) p t)))
