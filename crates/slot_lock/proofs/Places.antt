-- Which slot has a page
use Rattle.slot_lock.proofs.Words.{◌≡◌, ℕ, suc, zero, ◌+◌, ◌-◌, ◌^◌, ◌<◌, ◌≤◌, true, false, List, [], ◌∷◌, length, get_or, refl, ◌∙◌, ap, arith, ⊎_elim}
use Rattle.slot_lock.proofs.Words.{cases_lt, get_or_default, nat_tests}
use Rattle.std.proofs.Common.{nat_le}
use Rattle.std.proofs.Common.{add-zero}
use Rattle.std.specs.List.{prefix_len}
use Rattle.std.proofs.lemmas.List.Sums.{prefix_len-le-length, prefix_len_is, prefix_len_passes}
use Rattle.std.proofs.lemmas.List.Sums.{prefix_len_stops}
use Rattle.slot_lock.specs.declared.slot.Slot.{Slot}
use Rattle.slot_lock.specs.SlotList.{empty_slot, get_slot, slot_begins_by, place_of, slot_at, HasPageAt, IsInner, IsInsideSlot, IsSlotList}

-- starts rise
pub starts_rise : (rs : List Slot) → IsSlotList rs → (i k : ℕ) → i + k < length rs
    → (get_slot rs i).start ≤ (get_slot rs (i + k)).start
starts_rise rs ok i zero h = rw add-zero (omega arith)
starts_rise rs ok i (suc k) h =
    let before : (get_slot rs i).start ≤ (get_slot rs (i + k)).start =
    starts_rise rs ok i k (omega arith) in
    let step : (get_slot rs (i + k)).start < (get_slot rs (i + k + 1)).start =
    ok.rising (i + k) (omega arith) in
    let same : i + suc k ≡ i + k + 1 = omega arith in
    rw same (omega arith)

pub starts_rise_to : (rs : List Slot) → IsSlotList rs → (i j : ℕ) → i ≤ j → j < length rs
    → (get_slot rs i).start ≤ (get_slot rs j).start
starts_rise_to rs ok i j h l =
    let same : i + (j - i) ≡ j = omega arith in
    rw same at (starts_rise rs ok i (j - i) (omega arith))

passes : (p s : ℕ) → s ≤ p → nat_le s p ≡ true
passes p s h = grind (arith, nat_tests)

stops : (p s : ℕ) → p < s → nat_le s p ≡ false
stops p s h = grind (arith, nat_tests)

passed : (p s : ℕ) → nat_le s p ≡ true → s ≤ p
passed p s h = grind (arith, nat_tests)

stopped : (p s : ℕ) → nat_le s p ≡ false → p < s
stopped p s h = grind (arith, nat_tests)

-- starts alone say which slot has a page
pub place_by_starts : (rs : List Slot) (p i : ℕ) → i < length rs
    → ((k : ℕ) → k ≤ i → (get_slot rs k).start ≤ p)
    → (i + 1 < length rs → p < (get_slot rs (i + 1)).start) → place_of rs p ≡ i
unfolding place_of
place_by_starts rs p i h below above =
    let n : prefix_len (slot_begins_by p) rs ≡ i + 1 =
    prefix_len_is (slot_begins_by p) rs (i + 1) empty_slot (omega arith)
    (λ k l. passes p (get_slot rs k).start (below k (omega arith)))
    (λ l. stops p (get_slot rs (i + 1)).start (above l)) in
    omega arith

-- the slot of a page is at its place
pub place_is : (rs : List Slot) → IsSlotList rs → (p i : ℕ) → HasPageAt rs p i → place_of rs p ≡ i
place_is rs ok p i h = place_by_starts rs p i h.within
    (λ k l.
    let a : (get_slot rs k).start ≤ (get_slot rs i).start = starts_rise_to rs ok k i l h.within in
    omega (arith, h.from))
    h.until

first_passes : (rs : List Slot) → IsSlotList rs → (p : ℕ) → 0 < prefix_len (slot_begins_by p) rs
first_passes [] ok p = absurd (omega (arith, ok.some))
first_passes (r ∷ rs) ok p =
    let first : r.start ≡ 0 = ok.zero_first in
    rw (passes p r.start (omega arith)) (omega arith)

at_prefix : (rs : List Slot) (p n : ℕ) → prefix_len (slot_begins_by p) rs ≡ n → 0 < n → HasPageAt rs p (n - 1)
at_prefix rs p n e some =
    let most : prefix_len (slot_begins_by p) rs ≤ length rs = prefix_len-le-length (slot_begins_by p) rs in
    record {
      within = omega arith;
      from = passed p (get_slot rs (n - 1)).start
          (prefix_len_passes (slot_begins_by p) rs (n - 1) empty_slot (omega arith));
      until = λ h.
          let same : n - 1 + 1 ≡ prefix_len (slot_begins_by p) rs = omega arith in
          rw same (stopped p (get_slot rs (prefix_len (slot_begins_by p) rs)).start
          (prefix_len_stops (slot_begins_by p) rs empty_slot (omega arith)));
    }

pub place_at : (rs : List Slot) → IsSlotList rs → (p : ℕ) → HasPageAt rs p (place_of rs p)
unfolding place_of
place_at rs ok p = at_prefix rs p (prefix_len (slot_begins_by p) rs) refl (first_passes rs ok p)

pub slot_at_place : (rs : List Slot) (p : ℕ) → slot_at rs p ≡ get_slot rs (place_of rs p)
unfolding slot_at
slot_at_place rs p = refl

pub slot_at_is : (rs : List Slot) → IsSlotList rs → (p i : ℕ) → HasPageAt rs p i → slot_at rs p ≡ get_slot rs i
slot_at_is rs ok p i h = slot_at_place rs p ∙ ap (get_slot rs) (place_is rs ok p i h)

-- the slot that has a page, as a place with what is known there
pub record Found (rs : List Slot) (p : ℕ) : Type 0 where
  pub at : ℕ
  pub is : HasPageAt rs p at
  pub slot : slot_at rs p ≡ get_slot rs at

pub found : (rs : List Slot) → IsSlotList rs → (p : ℕ) → Found rs p
found rs ok p = record { at = place_of rs p; is = place_at rs ok p; slot = slot_at_place rs p }

-- a valid page's slot is neither the first nor the last
pub after_first : (rs : List Slot) → IsSlotList rs → (p i : ℕ) → HasPageAt rs p i → 1 ≤ p → 1 ≤ i
after_first rs ok p zero h v =
    let next : p < (get_slot rs 1).start = h.until (omega (arith, ok.some)) in
    absurd (omega (arith, ok.one_second))
after_first rs ok p (suc i) h v = omega arith

pub before_last : (rs : List Slot) → IsSlotList rs → (p i : ℕ) → HasPageAt rs p i → p < 2 ^ 35
    → i + 1 < length rs
before_last rs ok p i h v = ⊎_elim (λ l. l) (λ l. last l) (cases_lt (i + 1) (length rs))
  where
    last : length rs ≤ i + 1 → i + 1 < length rs
    last l =
        let same : length rs - 1 ≡ i = omega (arith, h.within) in
        let limit = rw same at ok.limit_last in
        absurd (omega (arith, h.from, limit))

pub start_most : (rs : List Slot) → IsSlotList rs → (i : ℕ) → i < length rs → (get_slot rs i).start ≤ 2 ^ 35
start_most rs ok i h = let l = starts_rise_to rs ok i (length rs - 1) (omega arith) (omega arith) in
    omega (arith, l, ok.limit_last)

-- the slot of a valid page is neither the first nor the last
pub inner : (rs : List Slot) → IsSlotList rs → (p i : ℕ) → HasPageAt rs p i → 1 ≤ p → p < 2 ^ 35 → IsInner rs i
inner rs ok p i h low high = record { after_first = after_first rs ok p i h low; before_last = before_last rs ok p i h high }

-- a page that the slot doesn't begin at lies inside it
pub inside : (rs : List Slot) → IsSlotList rs → (p i : ℕ) → HasPageAt rs p i → 1 ≤ p → p < 2 ^ 35 → (get_slot rs i).start < p → IsInsideSlot rs i p
inside rs ok p i h low high above =
    let at = inner rs ok p i h low high in
    record { inner = at; above = above; below = h.until at.before_last }

-- what an index reads
pub read_slot : (rs : List Slot) (i : ℕ) (r : Slot) → i < length rs → r ≡ get_or rs i r
    → r ≡ get_slot rs i
read_slot rs i r h e = e ∙ get_or_default rs i r empty_slot h
