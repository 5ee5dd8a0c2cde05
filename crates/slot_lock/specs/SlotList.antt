-- A list of slots, each of the pages from its start up to the next one's. The first is page 0 and
-- the last is what lies above all valid pages: no core holds them and nothing is mapped there
use Rattle.std.specs.Prelude.{◌≡◌, ℕ, ◌+◌, ◌-◌, ◌^◌, ◌<◌, ◌≤◌, nat_le, Bool, true, false, List, length}
use Rattle.std.specs.Prelude.{slice_index_or, Option, Some, None, is_some}
use Rattle.std.specs.List.{insert, prefix_len}
use Rattle.vm_base.specs.declared.info.PageInfo.{PageInfo}
use Rattle.vm_base.specs.Info.{advance, info_from, info_file_page, info_with_prot, is_leaf, unused}
use Rattle.slot_lock.specs.declared.plan.Change.{Change}
use Rattle.slot_lock.specs.declared.plan.Change.TheVariants.{Put, Clear, Protect}
use Rattle.slot_lock.specs.declared.slot.Slot.{Slot}

abbrev pub empty_slot : Slot
empty_slot = record { start = 0; owner = None; info = None }

abbrev pub get_slot : List Slot → ℕ → Slot
get_slot rs i = slice_index_or rs i empty_slot

abbrev pub slot_begins_by : ℕ → Slot → Bool
slot_begins_by p r = nat_le r.start p

-- the place of the last slot that begins by the page
unfoldable pub place_of : List Slot → ℕ → ℕ
place_of rs p = prefix_len (slot_begins_by p) rs - 1

-- the slot that has the page
unfoldable pub slot_at : List Slot → ℕ → Slot
slot_at rs p = get_slot rs (place_of rs p)

-- the slot at i has the page
pub record HasPageAt (rs : List Slot) (p i : ℕ) : Type 0 where
  pub within : i < length rs
  pub from : (get_slot rs i).start ≤ p
  pub until : i + 1 < length rs → p < (get_slot rs (i + 1)).start

-- the list begins with pages 0 and 1, rises, and covers all pages
pub record IsSlotList (rs : List Slot) : Type 0 where
  pub some : 2 < length rs
  pub rising : (k : ℕ) → k + 1 < length rs → (get_slot rs k).start < (get_slot rs (k + 1)).start
  -- page 0
  pub zero_first : (get_slot rs 0).start ≡ 0
  pub one_second : (get_slot rs 1).start ≡ 1
  pub zero_unmapped : is_some (get_slot rs 0).info ≡ false
  pub zero_free : is_some (get_slot rs 0).owner ≡ false
  -- above all valid pages
  pub limit_last : (get_slot rs (length rs - 1)).start ≡ 2 ^ 35
  pub limit_unmapped : is_some (get_slot rs (length rs - 1)).info ≡ false
  pub limit_free : is_some (get_slot rs (length rs - 1)).owner ≡ false
  -- the file pages of a slot's pages are numbers that a file can have
  pub fits : (k : ℕ) → k + 1 < length rs
      → info_file_page (get_slot rs k).info + ((get_slot rs (k + 1)).start - (get_slot rs k).start)
      ≤ 2 ^ 35
  -- a page with a frame or a recorded core is a slot of its own
  pub alone : (k : ℕ) → k + 1 < length rs → is_leaf (get_slot rs k).info ≡ true
      → (get_slot rs (k + 1)).start ≡ (get_slot rs k).start + 1

-- the slot at i is neither the first nor the last
pub record IsInner (rs : List Slot) (i : ℕ) : Type 0 where
  pub after_first : 1 ≤ i
  pub before_last : i + 1 < length rs

-- the page lies inside the slot at i, which is neither the first nor the last
pub record IsInsideSlot (rs : List Slot) (i at : ℕ) : Type 0 where
  pub inner : IsInner rs i
  pub above : (get_slot rs i).start < at
  pub below : at < (get_slot rs (i + 1)).start

-- two slots, of which the second begins where the first ends, can be one slot
pub record AreOne (r next : Slot) : Type 0 where
  pub free : r.owner ≡ None
  pub next_free : next.owner ≡ None
  pub no_leaf : is_leaf r.info ≡ false
  pub next_no_leaf : is_leaf next.info ≡ false
  pub goes_on : next.info ≡ info_from r.info (next.start - r.start)

-- the slot at i and the next one can be one slot, and neither is the last slot
pub record IsJoint (rs : List Slot) (i : ℕ) : Type 0 where
  pub next : i + 2 < length rs
  pub one : AreOne (get_slot rs i) (get_slot rs (i + 1))

-- the part of a slot from a page on
abbrev pub tail_from : Slot → ℕ → Slot
tail_from r at = record { start = at; owner = r.owner; info = info_from r.info (at - r.start) }

-- the slots with the one at i cut in two
abbrev pub cut_list : List Slot → ℕ → ℕ → List Slot
cut_list rs i at = insert rs (i + 1) (tail_from (get_slot rs i) at)

-- a slot with this owner
abbrev pub owned_slot : Option ℕ → Slot → Slot
owned_slot owner r = record { start = r.start; owner = owner; info = r.info }

-- a slot with this content
abbrev pub informed_slot : Option PageInfo → Slot → Slot
informed_slot info r = record { start = r.start; owner = r.owner; info = info }

-- what a slot in the range of a change has after it
abbrev pub changed_info : Change → Slot → Option PageInfo
changed_info (Put range meta) r = Some (unused (advance meta (r.start - range.first)))
changed_info (Clear range) r = None
changed_info (Protect range prot) r = info_with_prot prot r.info

abbrev pub changed_slot : Change → Slot → Slot
changed_slot change r = informed_slot (changed_info change r) r
