-- What a step of a list of slots does, from what its parts do
use Rattle.slot_lock.proofs.Words.{◌≡◌, ℕ, zero, suc, ◌+◌, ◌-◌, ◌^◌, ◌<◌, ◌≤◌, inl, inr, ⊎_elim, true, false, List, [], ◌∷◌, length, get_or, Some, None, refl}
use Rattle.slot_lock.proofs.Words.{sym, ◌∙◌, ap, arith, cases_lt, info_from, info_file_page, is_leaf, eq_true}
use Rattle.slot_lock.specs.declared.slot.Slot.{Slot}
use Rattle.slot_lock.specs.SlotList.{IsSlotList, HasPageAt, get_slot, slot_at, place_of}
use Rattle.slot_lock.proofs.Places.{read_slot, slot_at_is, slot_at_place, before_last, start_most}
use Rattle.slot_lock.specs.Slots.{Slots, IsFreePage, IsFreeSlot, IsNew, IsSlot, IsSlotBy, Locks, Unlocks, Crosses, with_owner}
use Rattle.slot_lock.specs.ListedSlots.{slots_of}
use Rattle.slot_lock.proofs.ListLaws.{info_from_zero, is_slot, edge_at}
use Rattle.slot_lock.proofs.Facts.{other_test, two}

-- what an index at a page's place reads
pub read_at : (rs : List Slot) → IsSlotList rs → (p i : ℕ) (r : Slot) → HasPageAt rs p i → r ≡ get_or rs i r → r ≡ slot_at rs p
read_at rs ok p i r at e = read_slot rs i r at.within e ∙ sym (slot_at_is rs ok p i at)

-- a slot ends by each edge after its start
pub slot_by_edge : (s : Slots) (a b e : ℕ) → IsSlot s a b → s.edge e ≡ true → a < e → b ≤ e
slot_by_edge s a b e slot edge l = ⊎_elim (λ (m : e < b). absurd (two _ (slot.inside e l m) edge)) (λ (m : b ≤ e). m) (cases_lt e b)

-- each page of a slot has its owner
pub owner_in : (rs : List Slot) → IsSlotList rs → (i p : ℕ) → i < length rs → (get_slot rs i).start ≤ p → p < (get_slot rs (i + 1)).start
    → (slots_of rs).owner p ≡ (get_slot rs i).owner
owner_in rs ok i p h a b = ap (λ (r : Slot). r.owner) (slot_at_is rs ok p i (record { within = h; from = a; until = λ _. b }))

pub slot_from : (rs : List Slot) → IsSlotList rs → (i cursor : ℕ) → i + 1 < length rs → (get_slot rs i).start ≡ cursor
    → IsSlot (slots_of rs) cursor (get_slot rs (i + 1)).start
slot_from rs ok i cursor h e = rw e at (is_slot rs ok i h)

pub locks : (rs qs : List Slot) → IsSlotList rs → (i core cursor end : ℕ) → i + 1 < length rs → (get_slot rs i).start ≡ cursor
    → (get_slot rs i).owner ≡ None → (get_slot rs (i + 1)).start ≤ end → slots_of qs ≡ with_owner (slots_of rs) (get_slot rs i).start
    (get_slot rs (i + 1)).start (Some core) → Locks (slots_of rs) (slots_of qs) core cursor end (get_slot rs (i + 1)).start
locks rs qs ok i core cursor end h e free by_end now = record {
  slot = slot_from rs ok i cursor h e;
  by_end = by_end;
  was_free = λ p a b. owner_in rs ok i p (omega arith) (omega arith) b ∙ free;
  now = now ∙ ap (λ n. with_owner (slots_of rs) n (get_slot rs (i + 1)).start (Some core)) e;
}

pub unlocks : (rs qs : List Slot) → IsSlotList rs → (i core cursor end : ℕ) → i + 1 < length rs → (get_slot rs i).start ≡ cursor
    → IsSlotBy (slots_of rs) cursor end → (slots_of rs).owner cursor ≡ Some core → slots_of qs ≡ with_owner (slots_of rs)
    (get_slot rs i).start (get_slot rs (i + 1)).start None → Unlocks (slots_of rs) (slots_of qs) core cursor end (get_slot rs (i + 1)).start
unlocks rs qs ok i core cursor end h e by held now =
    let slot = slot_from rs ok i cursor h e in
    let own = owner_in rs ok i cursor (omega arith) (omega arith) (let r = ok.rising i h in omega arith) in
    record {
      slot = slot;
      by_end = (let l = slot_by_edge (slots_of rs) cursor (get_slot rs (i + 1)).start by.0 slot by.1.ends by.1.ordered in let m = by.2 in omega arith);
      was_held = λ p a b. owner_in rs ok i p (omega arith) (omega arith) b ∙ (sym own ∙ held);
      now = now ∙ ap (λ n. with_owner (slots_of rs) n (get_slot rs (i + 1)).start None) e;
    }

-- the slot of the cursor reaches past the end
pub crosses_end : (rs : List Slot) → IsSlotList rs → (i cursor end : ℕ) → i + 1 < length rs → (get_slot rs i).start ≡ cursor
    → end < (get_slot rs (i + 1)).start → Crosses (slots_of rs) cursor end
crosses_end rs ok i cursor end h e l = inr (λ p a b. (slot_from rs ok i cursor h e).inside p a (omega arith))

pub first_slot : (rs : List Slot) → IsSlotList rs → (i cursor : ℕ) → HasPageAt rs cursor i → (slots_of rs).edge cursor ≡ true → (get_slot rs i).start ≡ cursor
first_slot rs ok i cursor at edge = sym (ap (λ (r : Slot). r.start) (slot_at_is rs ok cursor i at)) ∙ eq_true _ _ edge

-- the slots of a new list
abbrev pub new_list : List Slot
new_list = record { start = 0; owner = None; info = None } ∷ record { start = 1; owner = None; info = None } ∷ record {
  start = 2 ^ 35;
  owner = None;
  info = None;
} ∷ []

-- nothing is in any of these slots
empty_at : (k : ℕ) → ((get_slot new_list k).info ≡ None) × ((get_slot new_list k).owner ≡ None)
empty_at zero = (refl, refl)
empty_at (suc zero) = (refl, refl)
empty_at (suc (suc zero)) = (refl, refl)
empty_at (suc (suc (suc k))) = (refl, refl)

pub new_list-IsSlotList : IsSlotList new_list
new_list-IsSlotList = record {
  some = omega arith;
  rising = λ k l. rising k l;
  zero_first = refl;
  one_second = refl;
  zero_unmapped = refl;
  zero_free = refl;
  limit_last = refl;
  limit_unmapped = refl;
  limit_free = refl;
  fits = λ k l. fits k l;
  alone = λ k l leaf. absurd (no_leaf k leaf);
}
  where
    rising : (k : ℕ) → k + 1 < 3 → (get_slot new_list k).start < (get_slot new_list (k + 1)).start
    rising zero l = omega arith
    rising (suc zero) l = omega arith
    rising (suc (suc k)) l = absurd (omega arith)

    fits : (k : ℕ) → k + 1 < 3 → info_file_page (get_slot new_list k).info + ((get_slot new_list (k + 1)).start - (get_slot new_list k).start) ≤ 2 ^ 35
    fits zero l = omega arith
    fits (suc zero) l = omega arith
    fits (suc (suc k)) l = absurd (omega arith)

    no_leaf : (k : ℕ) → is_leaf (get_slot new_list k).info ≡ true → ⊥
    no_leaf k h = two _ (ap is_leaf (empty_at k).0) h

pub new_list-IsNew : IsNew (slots_of new_list)
new_list-IsNew = record {
  unmapped = λ p. ap (λ (r : Slot). info_from r.info (p - r.start)) (slot_at_place new_list p) ∙ rw ((empty_at (place_of new_list p)).0) refl;
  free = λ p. ap (λ (r : Slot). r.owner) (slot_at_place new_list p) ∙ (empty_at (place_of new_list p)).1;
}

-- a page inside a slot lies below all that is no page
pub below_limit : (rs : List Slot) → IsSlotList rs → (j e : ℕ) → HasPageAt rs e j → (get_slot rs j).start < e → e ≤ 2 ^ 35 → e < 2 ^ 35
below_limit rs ok j e at l m = ⊎_elim
    (λ (n : j + 1 < length rs). let s = start_most rs ok (j + 1) n in let u = at.until n in omega arith)
    (λ (n : length rs ≤ j + 1).
    let same : length rs - 1 ≡ j = omega (arith, at.within) in
    let limit = rw same at ok.limit_last in
    absurd (omega arith))
    (cases_lt (j + 1) (length rs))

pub owner_at : (rs : List Slot) → IsSlotList rs → (p i : ℕ) → HasPageAt rs p i → (slots_of rs).owner p ≡ (get_slot rs i).owner
owner_at rs ok p i at = ap (λ (r : Slot). r.owner) (slot_at_is rs ok p i at)

-- the slot of a page that begins no slot has the page before it too
pub owner_before : (rs : List Slot) → IsSlotList rs → (j e : ℕ) → HasPageAt rs e j → (get_slot rs j).start < e → (slots_of rs).owner (e - 1) ≡ (get_slot rs j).owner
owner_before rs ok j e at l = ap (λ (r : Slot). r.owner)
    (slot_at_is rs ok (e - 1) j (record { within = at.within; from = omega arith; until = λ n. let u = at.until n in omega arith }))

pub edge_of : (rs : List Slot) → IsSlotList rs → (j e : ℕ) → HasPageAt rs e j → e ≤ (get_slot rs j).start → (slots_of rs).edge e ≡ true
edge_of rs ok j e at l =
    let same : (get_slot rs j).start ≡ e = omega (arith, at.from) in
    rw same at (edge_at rs ok j at.within)

-- a slot of one page
pub one_page : (rs : List Slot) → IsSlotList rs → (j p : ℕ) → HasPageAt rs p j → IsSlot (slots_of rs) p (p + 1) → p < 2 ^ 35
    → ((get_slot rs j).start ≡ p) × ((get_slot rs (j + 1)).start ≡ p + 1)
one_page rs ok j p at slot valid =
    let last = before_last rs ok p j at valid in
    let first = first_slot rs ok j p at slot.begins in
    let next = slot_by_edge (slots_of rs) (get_slot rs j).start (get_slot rs (j + 1)).start (p + 1) (is_slot rs ok j last) slot.ends (omega arith) in
    let above = at.until last in
    (first, omega arith)

-- a slot of one page that nobody holds, as its page
pub free_page : (rs : List Slot) → IsSlotList rs → (i p : ℕ) → HasPageAt rs p i → p < 2 ^ 35 → (get_slot rs i).owner ≡ None
    → p ≤ (get_slot rs i).start → (get_slot rs (i + 1)).start ≤ p + 1 → IsFreePage (slots_of rs) p (record { info = (get_slot rs i).info })
free_page rs ok i p at valid free begins ends =
    let last = before_last rs ok p i at valid in
    let here : (get_slot rs i).start ≡ p = omega (arith, at.from) in
    let above = at.until last in
    let next : (get_slot rs (i + 1)).start ≡ p + 1 = omega arith in
    let none : p - (get_slot rs i).start ≡ 0 = omega arith in
    record {
      alone = record {
        slot = rw next at (slot_from rs ok i p last here);
        free = owner_at rs ok p i at ∙ free;
      };
      info = sym (ap (λ (r : Slot). info_from r.info (p - r.start)) (slot_at_is rs ok p i at)
          ∙ ap (info_from (get_slot rs i).info) none ∙ info_from_zero (get_slot rs i).info);
    }

-- a page that nobody holds, as a slot of one page
pub free_slot : (rs : List Slot) → IsSlotList rs → (i p : ℕ) → HasPageAt rs p i → p < 2 ^ 35 → IsFreeSlot (slots_of rs) p
    → ((get_slot rs i).owner ≡ None) × (p ≤ (get_slot rs i).start) × ((get_slot rs (i + 1)).start ≤ p + 1)
free_slot rs ok i p at valid alone =
    let one = one_page rs ok i p at alone.slot valid in
    (sym (owner_at rs ok p i at) ∙ alone.free, omega (arith, one.0), omega (arith, one.1))

-- a page inside a slot begins none
pub no_edge : (rs : List Slot) → IsSlotList rs → (i p : ℕ) → HasPageAt rs p i → (get_slot rs i).start < p → (slots_of rs).edge p ≡ false
no_edge rs ok i p at l = rw (slot_at_is rs ok p i at) (other_test (get_slot rs i).start p (omega arith))

pub crosses_start : (rs : List Slot) → IsSlotList rs → (i cursor end : ℕ) → HasPageAt rs cursor i → (get_slot rs i).start < cursor → Crosses (slots_of rs) cursor end
crosses_start rs ok i cursor end at l = inl (no_edge rs ok i cursor at l)

-- a slot that begins below all that is no page is not the last
pub before_limit : (rs : List Slot) → IsSlotList rs → (i : ℕ) → i < length rs → (get_slot rs i).start < 2 ^ 35 → i + 1 < length rs
before_limit rs ok i h l = ⊎_elim (λ (n : i + 1 < length rs). n)
    (λ (n : length rs ≤ i + 1).
    let same : length rs - 1 ≡ i = omega arith in
    let limit = rw same at ok.limit_last in
    absurd (omega arith))
    (cases_lt (i + 1) (length rs))
