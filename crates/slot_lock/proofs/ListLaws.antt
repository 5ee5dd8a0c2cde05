-- What holds of each list of slots
use Rattle.slot_lock.proofs.Words.{◌≡◌, ℕ, ◌+◌, ◌-◌, ◌^◌, ◌<◌, ◌≤◌, ◌⊎◌, inl, inr, ⊎_elim, true, false, List, length, Option, Some, None, is_some, refl, sym}
use Rattle.slot_lock.proofs.Words.{◌∙◌, ap, arith, cases_lt, PageInfo, Back, Anon, Shared, Private, IsPage, advance_back, file_page, info_from}
use Rattle.slot_lock.proofs.Words.{info_file_page, is_leaf}
use Rattle.slot_lock.specs.declared.slot.Slot.{Slot}
use Rattle.slot_lock.specs.SlotList.{IsSlotList, get_slot, slot_at}
use Rattle.slot_lock.proofs.Places.{Found, found, slot_at_is}
use Rattle.slot_lock.specs.Slots.{IsSlotMap, IsSlot}
use Rattle.slot_lock.specs.ListedSlots.{slots_of}
use Rattle.slot_lock.proofs.Facts.{same_test, other_test, none_of}

-- ---- what a page has
pub advance_back_twice : (b : Back) (m n : ℕ) → advance_back (advance_back b m) n ≡ advance_back b (m + n)
advance_back_twice Anon m n = refl
advance_back_twice (Shared f k) m n = ap (Shared f) (omega arith)
advance_back_twice (Private f k) m n = ap (Private f) (omega arith)

pub info_from_twice : (o : Option PageInfo) (m n : ℕ)
    → info_from (info_from o m) n ≡ info_from o (m + n)
info_from_twice None m n = refl
info_from_twice (Some info) m n = ap
    (λ b. Some (record info { meta = record { back = b; prot = info.meta.prot } }))
    (advance_back_twice info.meta.back m n)

advance_back_zero : (b : Back) → advance_back b 0 ≡ b
advance_back_zero Anon = refl
advance_back_zero (Shared f k) = ap (Shared f) (omega arith)
advance_back_zero (Private f k) = ap (Private f) (omega arith)

pub info_from_zero : (o : Option PageInfo) → info_from o 0 ≡ o
info_from_zero None = refl
info_from_zero (Some info) =
    ap (λ b. Some (record info { meta = record { back = b; prot = info.meta.prot } }))
    (advance_back_zero info.meta.back)

pub is_leaf-info_from : (o : Option PageInfo) (n : ℕ) → is_leaf (info_from o n) ≡ is_leaf o
is_leaf-info_from None n = refl
is_leaf-info_from (Some info) n = refl

pub info_from_unmapped : (o : Option PageInfo) (n : ℕ) → is_some o ≡ false → info_from o n ≡ None
info_from_unmapped None n h = refl
info_from_unmapped (Some info) n h = cc

-- ---- file pages

back_on : (b : Back) (n : ℕ) → file_page (advance_back b n) ≤ file_page b + n
back_on Anon n = omega arith
back_on (Shared f k) n = omega arith
back_on (Private f k) n = omega arith

-- n pages on
pub file_page_on : (o : Option PageInfo) (n : ℕ) → info_file_page (info_from o n) ≤ info_file_page o + n
file_page_on None n = omega arith
file_page_on (Some info) n = back_on info.meta.back n

back_before : (b : Back) (n m most : ℕ) → n ≤ m → m ≤ most → file_page (advance_back b n) + (m - n) ≤ most → file_page b + m ≤ most
back_before Anon n m most l k h = omega arith
back_before (Shared f p) n m most l k h = omega arith
back_before (Private f p) n m most l k h = omega arith

-- m pages whose part from the n-th on fits
pub fits_before : (o : Option PageInfo) (n m most : ℕ) → n ≤ m → m ≤ most → info_file_page (info_from o n) + (m - n) ≤ most
    → info_file_page o + m ≤ most
fits_before None n m most l k h = omega arith
fits_before (Some info) n m most l k h = back_before info.meta.back n m most l k h

no_file_page : (o : Option PageInfo) (n : ℕ) → is_some o ≡ false → info_file_page (info_from o n) ≡ 0
no_file_page None n h = refl
no_file_page (Some info) n h = cc

leaf_mapped : (o : Option PageInfo) → is_leaf o ≡ true → is_some o ≡ false → ⊥
leaf_mapped None h k = cc
leaf_mapped (Some info) h k = cc

-- ---- edges
pub edge_at : (rs : List Slot) → IsSlotList rs → (i : ℕ) → i < length rs
    → (slots_of rs).edge (get_slot rs i).start ≡ true
edge_at rs ok i h =
    let slot = slot_at_is rs ok (get_slot rs i).start i
    (record { within = h; from = omega arith; until = λ l. ok.rising i l }) in
    same_test _ _ (ap (λ (r : Slot). r.start) slot)

-- the page after one that is in a slot and begins none
pub slot_next : (rs : List Slot) → IsSlotList rs → (p : ℕ) → (slots_of rs).edge (p + 1) ≡ false
    → slot_at rs (p + 1) ≡ slot_at rs p
slot_next rs ok p h =
    let f = found rs ok p in
    slot_at_is rs ok (p + 1) f.at (record {
      within = f.is.within;
      from = omega (arith, f.is.from);
      until = λ l. below f.at l (f.is.until l);
    }) ∙ sym f.slot
  where
    below : (i : ℕ) → i + 1 < length rs → p < (get_slot rs (i + 1)).start
        → p + 1 < (get_slot rs (i + 1)).start
    below i l above =
        ⊎_elim (λ k. k) (λ k.
        let same : (get_slot rs (i + 1)).start ≡ p + 1 = omega arith in
        let edge = rw same at (edge_at rs ok (i + 1) l) in
        absurd cc) (cases_lt (p + 1) (get_slot rs (i + 1)).start)

pub is_slot : (rs : List Slot) → IsSlotList rs → (i : ℕ) → i + 1 < length rs
    → IsSlot (slots_of rs) (get_slot rs i).start (get_slot rs (i + 1)).start
is_slot rs ok i h = record {
  ordered = ok.rising i h;
  begins = edge_at rs ok i (omega arith);
  ends = edge_at rs ok (i + 1) h;
  inside = λ p a b.
      let slot =
      slot_at_is rs ok p i (record { within = omega arith; from = omega arith; until = λ _. b }) in
      rw slot (other_test _ _ (omega arith));
}

-- ---- the laws
above_all : (rs : List Slot) → IsSlotList rs → (p : ℕ) → 2 ^ 35 ≤ p
    → slot_at rs p ≡ get_slot rs (length rs - 1)
above_all rs ok p h = slot_at_is rs ok p (length rs - 1) (record {
  within = omega (arith, ok.some);
  from = omega (arith, ok.limit_last);
  until = λ l. absurd (omega arith);
})

zero_slot : (rs : List Slot) → IsSlotList rs → slot_at rs 0 ≡ get_slot rs 0
zero_slot rs ok = slot_at_is rs ok 0 0 (record {
  within = omega (arith, ok.some);
  from = omega (arith, ok.zero_first);
  until = λ l. omega (arith, ok.one_second);
})

outside : (p : ℕ) → ¬ IsPage p → (p ≡ 0) ⊎ (2 ^ 35 ≤ p)
outside p h = ⊎_elim (λ a. inl (omega arith)) (λ a. ⊎_elim (λ b. absurd (h (a, b))) (λ b. inr b)
    (cases_lt p (2 ^ 35))) (cases_lt p 1)

unmapped_at : (rs : List Slot) → IsSlotList rs → (p : ℕ) → (p ≡ 0) ⊎ (2 ^ 35 ≤ p)
    → (slots_of rs).info p ≡ None
unmapped_at rs ok p (inl z) = rw (z, zero_slot rs ok) (info_from_unmapped _ _ ok.zero_unmapped)
unmapped_at rs ok p (inr l) = rw (above_all rs ok p l) (info_from_unmapped _ _ ok.limit_unmapped)

free_at : (rs : List Slot) → IsSlotList rs → (p : ℕ) → (p ≡ 0) ⊎ (2 ^ 35 ≤ p)
    → (slots_of rs).owner p ≡ None
free_at rs ok p (inl z) = rw (z, zero_slot rs ok) (none_of _ ok.zero_free)
free_at rs ok p (inr l) = rw (above_all rs ok p l) (none_of _ ok.limit_free)

pub list_laws : (rs : List Slot) → IsSlotList rs → IsSlotMap (slots_of rs)
list_laws rs ok = record {
  limit = let e = edge_at rs ok (length rs - 1) (omega (arith, ok.some)) in rw ok.limit_last at e;
  unmapped = λ p h. unmapped_at rs ok p (outside p h);
  free = λ p h. free_at rs ok p (outside p h);
  same_owner = λ p _ h. ap (λ (r : Slot). r.owner) (slot_next rs ok p h);
  goes_on = λ p _ h.
      let from : (slot_at rs p).start ≤ p = (let f = found rs ok p in rw f.slot f.is.from) in
      let n : p + 1 - (slot_at rs p).start ≡ p - (slot_at rs p).start + 1 = omega arith in
      rw (slot_next rs ok p h, n) (sym (info_from_twice _ _ 1));
  alone = λ p h. alone_at p (found rs ok p)
      (sym (is_leaf-info_from (slot_at rs p).info (p - (slot_at rs p).start)) ∙ h);
  fits = λ p. fits_at p (found rs ok p);
}
  where
    fits_at : (p : ℕ) (f : Found rs p) → info_file_page ((slots_of rs).info p) < 2 ^ 36
    fits_at p f = rw f.slot (⊎_elim
        (λ l.
        let fits = ok.fits f.at l in
        let until = f.is.until l in
        omega (arith, f.is.from, file_page_on (get_slot rs f.at).info (p - (get_slot rs f.at).start)))
        (λ l.
        let same : f.at ≡ length rs - 1 = omega (arith, f.is.within) in
        let none =
        no_file_page (get_slot rs f.at).info (p - (get_slot rs f.at).start)
        (rw same ok.limit_unmapped) in
        omega arith)
        (cases_lt (f.at + 1) (length rs)))

    alone_at : (p : ℕ) (f : Found rs p) → is_leaf (slot_at rs p).info ≡ true
        → ((slots_of rs).edge p ≡ true) × ((slots_of rs).edge (p + 1) ≡ true)
    alone_at p f h =
        let leaf = rw f.slot at h in
        ⊎_elim
        (λ l.
        let next = ok.alone f.at l leaf in
        let above = f.is.until l in
        let here : (get_slot rs f.at).start ≡ p = omega (arith, f.is.from) in
        let there : (get_slot rs (f.at + 1)).start ≡ p + 1 = omega arith in
        (rw here at (edge_at rs ok f.at f.is.within), rw there at (edge_at rs ok (f.at + 1) l)))
        (λ l.
        let same : f.at ≡ length rs - 1 = omega (arith, f.is.within) in
        absurd (leaf_mapped _ (rw same at leaf) ok.limit_unmapped))
        (cases_lt (f.at + 1) (length rs))
