-- Slots that are added from left to right
use Rattle.slot_lock.proofs.Words.{◌≡◌, ◌≢◌, ℕ, ◌+◌, ◌-◌, ◌^◌, ◌<◌, ◌≤◌, ◌⊎◌, inl, inr, ⊎_elim, true, List, length, set, Option, None, refl, sym, ◌∙◌, ap}
use Rattle.slot_lock.proofs.Words.{arith, cases_lt, cases_eq, PageInfo, put_same, put_other}
use Rattle.slot_lock.specs.declared.slot.Slot.{Slot}
use Rattle.slot_lock.specs.SlotList.{IsSlotList, IsInner, IsInsideSlot, get_slot, cut_list}
use Rattle.slot_lock.specs.Slots.{Slots, IsSlot, Divides}
use Rattle.slot_lock.specs.ListedSlots.{slots_of}
use Rattle.slot_lock.proofs.ListLaws.{is_slot}
use Rattle.slot_lock.proofs.Cuts.{cut_edge, cut_list-Divides}
use Rattle.slot_lock.specs.Adding.{IsFreeRest, IsSoundSlot, CanAdd, with_edge, filled}
use Rattle.slot_lock.proofs.Steps.{owner_at}
use Rattle.slot_lock.proofs.Joins.{next_info}
use Rattle.slot_lock.proofs.Edits.{set-IsSlotList, slots_of-set, same_slots}
use Rattle.slot_lock.proofs.Facts.{two}

-- ---- edges

pub edge_there : (s : Slots) (at : ℕ) → s.edge at ≡ true → s ≡ with_edge s at
edge_there s at h = same_slots (with_edge s at) s (λ p. refl) (λ p. refl) edge
  where
    edge : (p : ℕ) → s.edge p ≡ (with_edge s at).edge p
    edge p = ⊎_elim
        (λ (e : p ≡ at). rw e (h ∙ sym (put_same s.edge at true)))
        (λ (ne : p ≢ at). sym (put_other s.edge at true p ne))
        (cases_eq p at)

pub edge_cut : (rs : List Slot) → IsSlotList rs → (i at : ℕ) → IsInsideSlot rs i at → slots_of (cut_list rs i at) ≡ with_edge (slots_of rs) at
edge_cut rs ok i at h = same_slots (with_edge (slots_of rs) at) (slots_of (cut_list rs i at)) (λ p. ap (λ f. f p) d.info) (λ p. ap (λ f. f p) d.owners) edge
  where
    d : Divides (slots_of rs) (slots_of (cut_list rs i at)) (get_slot rs i).owner at
    d = cut_list-Divides rs ok i at h

    edge : (p : ℕ) → (slots_of (cut_list rs i at)).edge p ≡ (with_edge (slots_of rs) at).edge p
    edge p = ⊎_elim
        (λ (e : p ≡ at). rw e (d.begins ∙ sym (put_same (slots_of rs).edge at true)))
        (λ (ne : p ≢ at). cut_edge rs ok i at h p ne ∙ sym (put_other (slots_of rs).edge at true p ne))
        (cases_eq p at)

-- ---- the rest

-- the last slot of valid pages ends where they do
pub last_ends : (rs : List Slot) → IsSlotList rs → (i : ℕ) → i + 2 ≡ length rs → (get_slot rs (i + 1)).start ≡ 2 ^ 35
last_ends rs ok i h =
    let n : i + 1 ≡ length rs - 1 = omega arith in
    ap (λ k. (get_slot rs k).start) n ∙ ok.limit_last

-- a valid page of it after its first
pub inside_last : (rs : List Slot) → IsSlotList rs → (i at : ℕ) → i + 2 ≡ length rs → (get_slot rs i).start < at → at < 2 ^ 35 → IsInsideSlot rs i at
inside_last rs ok i at h above below =
    let ends = last_ends rs ok i h in
    record {
      inner = record { after_first = omega (arith, ok.some); before_last = omega arith };
      above = above;
      below = omega arith;
    }

pub last_slot : (rs : List Slot) → IsSlotList rs → (i : ℕ) → i + 2 ≡ length rs → IsSlot (slots_of rs) (get_slot rs i).start (2 ^ 35)
last_slot rs ok i h = rw (last_ends rs ok i h) at (is_slot rs ok i (omega arith))

-- two slots with one end are one
same_start : (s : Slots) (a b end : ℕ) → IsSlot s a end → IsSlot s b end → a ≡ b
same_start s a b end h k = ⊎_elim
    (λ (l : a < b). absurd (two _ (h.inside b l k.ordered) k.begins))
    (λ (l : b ≤ a). ⊎_elim
    (λ (m : b < a). absurd (two _ (k.inside a m h.ordered) h.begins))
    (λ (m : a ≤ b). omega arith)
    (cases_lt b a))
    (cases_lt a b)

pub rest_is : (rs : List Slot) → IsSlotList rs → (i rest : ℕ) → i + 2 ≡ length rs → IsFreeRest (slots_of rs) rest → rest ≡ (get_slot rs i).start
rest_is rs ok i rest h r = same_start (slots_of rs) rest (get_slot rs i).start (2 ^ 35) r.slot (last_slot rs ok i h)

-- what the slot of the last slot has
last_owner : (rs : List Slot) → IsSlotList rs → (i : ℕ) → i + 2 ≡ length rs → (slots_of rs).owner (get_slot rs i).start ≡ (get_slot rs i).owner
last_owner rs ok i h = owner_at rs ok (get_slot rs i).start i (record { within = omega arith; from = omega arith; until = λ l. ok.rising i l })

last_info : (rs : List Slot) → IsSlotList rs → (i : ℕ) → i + 2 ≡ length rs → (slots_of rs).info (get_slot rs i).start ≡ (get_slot rs i).info
last_info rs ok i h = next_info rs ok i (omega arith)

pub rest_owner : (rs : List Slot) → IsSlotList rs → (i rest : ℕ) → i + 2 ≡ length rs → IsFreeRest (slots_of rs) rest → (get_slot rs i).owner ≡ None
rest_owner rs ok i rest h r = sym (last_owner rs ok i h) ∙ (ap (slots_of rs).owner (sym (rest_is rs ok i rest h r)) ∙ r.free)

pub rest_info : (rs : List Slot) → IsSlotList rs → (i rest : ℕ) → i + 2 ≡ length rs → IsFreeRest (slots_of rs) rest → (get_slot rs i).info ≡ None
rest_info rs ok i rest h r = sym (last_info rs ok i h) ∙ (ap (slots_of rs).info (sym (rest_is rs ok i rest h r)) ∙ r.unmapped)

pub rest : (rs : List Slot) → IsSlotList rs → (i : ℕ) → i + 2 ≡ length rs → (get_slot rs i).owner ≡ None → (get_slot rs i).info ≡ None
    → IsFreeRest (slots_of rs) (get_slot rs i).start
rest rs ok i h owner info = record {
  slot = last_slot rs ok i h;
  free = last_owner rs ok i h ∙ owner;
  unmapped = last_info rs ok i h ∙ info;
}

-- a slot that follows on begins in the rest
pub first_in_rest : (rs : List Slot) → IsSlotList rs → (i first end : ℕ) (info : Option PageInfo) → i + 2 ≡ length rs
    → CanAdd (slots_of rs) first end info → (get_slot rs i).start ≤ first
first_in_rest rs ok i first end info h can = go (rest_is rs ok i can.rest h can.is_rest) can.follows
  where
    go : can.rest ≡ (get_slot rs i).start → (first ≡ can.rest) ⊎ ((can.rest ≡ 1) × (1 ≤ first)) → (get_slot rs i).start ≤ first
    go is (inl e) = omega arith
    go is (inr e) = omega (arith, e.0, e.1)

-- ---- a slot with another owner and another content

abbrev pub filled_list : List Slot → ℕ → Option ℕ → Option PageInfo → List Slot
filled_list rs i owner info = set rs i (record { start = (get_slot rs i).start; owner = owner; info = info })

pub filled-IsSlotList : (rs : List Slot) → IsSlotList rs → (i : ℕ) (owner : Option ℕ) (info : Option PageInfo) → IsInner rs i
    → IsSoundSlot (get_slot rs i).start (get_slot rs (i + 1)).start info → IsSlotList (filled_list rs i owner info)
filled-IsSlotList rs ok i owner info h sound = set-IsSlotList rs ok i _ (record { inner = h; start = refl; sound = sound })

pub slots_of-filled : (rs : List Slot) → IsSlotList rs → (i : ℕ) (owner : Option ℕ) (info : Option PageInfo) → IsInner rs i
    → IsSoundSlot (get_slot rs i).start (get_slot rs (i + 1)).start info → slots_of (filled_list rs i owner info) ≡ filled (slots_of rs)
    (get_slot rs i).start (get_slot rs (i + 1)).start owner info
slots_of-filled rs ok i owner info h sound = slots_of-set rs ok i _ (record { inner = h; start = refl; sound = sound })
