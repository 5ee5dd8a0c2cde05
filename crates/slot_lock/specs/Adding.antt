-- A slot map made of slots that are added from left to right
use Rattle.std.specs.Prelude.{◌≡◌, ℕ, ◌+◌, ◌-◌, ◌^◌, ◌<◌, ◌≤◌, ◌⊎◌, true, Option, None}
use Rattle.vm_base.specs.declared.info.PageInfo.{PageInfo}
use Rattle.vm_base.specs.Functions.{put, over, across, has}
use Rattle.vm_base.specs.Info.{info_from, info_file_page, is_leaf}
use Rattle.slot_lock.specs.Slots.{Slots, IsSlot, between}

-- the pages from this one to the last valid one are one slot, which nobody holds, and nothing is
-- mapped there
pub record IsFreeRest (s : Slots) (start : ℕ) : Type 0 where
  pub slot : IsSlot s start (2 ^ 35)
  pub free : s.owner start ≡ None
  pub unmapped : s.info start ≡ None

-- a slot can have these pages, where its first page has this
pub record IsSoundSlot (first end : ℕ) (info : Option PageInfo) : Type 0 where
  pub some : first < end
  pub high : end ≤ 2 ^ 35
  pub alone : is_leaf info ≡ true → end ≡ first + 1
  pub fits : info_file_page info + (end - first) ≤ 2 ^ 35

-- such a slot follows on: it begins where the last one ends, or is the first one
pub record CanAdd (s : Slots) (first end : ℕ) (info : Option PageInfo) : Type 0 where
  pub rest : ℕ
  pub is_rest : IsFreeRest s rest
  pub follows : (first ≡ rest) ⊎ ((rest ≡ 1) × (1 ≤ first))
  pub sound : IsSoundSlot first end info

-- a slot begins at the page, and all else stays
abbrev pub with_edge : Slots → ℕ → Slots
with_edge s at = record s { edge = put s.edge at true }

-- the pages from first up to end have this owner, and what goes on from this
abbrev pub filled : Slots → ℕ → ℕ → Option ℕ → Option PageInfo → Slots
filled s first end owner info = record s {
  info = across s.info (has (between first end)) (λ p. info_from info (p - first));
  owner = over s.owner (has (between first end)) owner;
}

-- the slot of these pages was added, and all else stays
abbrev pub with_slot : Slots → ℕ → ℕ → Option ℕ → Option PageInfo → Slots
with_slot s first end owner info = filled (with_edge (with_edge s first) end) first end owner info
