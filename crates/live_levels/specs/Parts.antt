-- The 512 slots that are made of one
use Rattle.std.specs.Prelude.{◌≡◌, ℕ, ◌+◌, ◌*◌, ◌<◌, ◌≤◌, ◌^◌, false, List, [], ◌∷◌, length, get_or}
use Rattle.std.specs.Prelude.{Option, Some, None}
use Rattle.vm_base.specs.declared.info.PageInfo.{PageInfo}
use Rattle.vm_base.specs.Info.{advance, info_file_page, info_from, is_leaf}
use Rattle.live_levels.specs.declared.act.Act.{Act}
use Rattle.live_levels.specs.declared.act.Act.TheVariants.{Put, Clear}
use Rattle.live_levels.specs.Replay.{dated}
use Rattle.live_levels.specs.Slots.{SlotView}
use Rattle.live_levels.specs.declared.parts.Divided.{Divided}

-- the act by which a slot begins with what another has so many pages further on
abbrev pub carried_act : Option PageInfo → ℕ → Act
carried_act None by = Clear
carried_act (Some info) by = Put (advance info.meta by)

-- what 512 slots of so many pages can carry on: no page has a frame or a recorded core, and the
-- file pages are numbers
pub record CanCarry (content : Option PageInfo) (pages : ℕ) : Type 0 where
  pub no_leaf : is_leaf content ≡ false
  pub fits : info_file_page content + 512 * pages ≤ 2 ^ 36

-- the slot has these pages
abbrev pub IsPlaced : ℕ → ℕ → SlotView → Type 0
IsPlaced first count s = (s.first ≡ first) × (s.count ≡ count)

-- The slot has so many pages from the divided slot's page `by` on. Its first page has what it had,
-- by a history of one change under the division's ticket, its owner is the one that was chosen, and
-- it isn't divided
pub record IsPart (d : Divided) (pages by : ℕ) (s : SlotView) : Type 0 where
  pub place : IsPlaced (d.first + by) pages s
  pub owner : s.owner ≡ d.owner
  pub content : s.content ≡ info_from d.content by
  pub changes : s.changes ≡ dated d.ticket (carried_act d.content by) ∷ []
  pub whole : s.divided ≡ false

-- unmapped, with no history, not divided, and no core is to lock it first
pub record IsUnused (s : SlotView) : Type 0 where
  pub owner : s.owner ≡ None
  pub content : s.content ≡ None
  pub changes : s.changes ≡ []
  pub whole : s.divided ≡ false

-- 512 slots of so many pages lie side by side
pub record AreSideBySide (first pages : ℕ) (slots : List SlotView) : Type 0 where
  pub count : length slots ≡ 512
  pub each : (k : ℕ) (d : SlotView) → k < 512 → IsPlaced (first + k * pages) pages (get_or slots k d)

-- 512 slots of so many pages lie side by side, and none was ever used
pub record AreUnused (first pages : ℕ) (slots : List SlotView) : Type 0 where
  pub places : AreSideBySide first pages slots
  pub each : (k : ℕ) (d : SlotView) → k < 512 → IsUnused (get_or slots k d)

-- what was divided is the slot, and its parts are this owner's to lock first
pub record DividesView (s : SlotView) (chosen : Option ℕ) (d : Divided) : Type 0 where
  pub first : d.first ≡ s.first
  pub content : d.content ≡ s.content
  pub owner : d.owner ≡ chosen

-- this slot is the one that was divided
abbrev pub IsDivided : Divided → SlotView → Type 0
IsDivided d s = (d.first ≡ s.first) × (d.content ≡ s.content)

-- the slots are the 512 parts of the divided slot, in order
pub record AreParts (d : Divided) (pages : ℕ) (slots : List SlotView) : Type 0 where
  pub count : length slots ≡ 512
  pub each : (k : ℕ) (other : SlotView) → k < 512 → IsPart d pages (k * pages) (get_or slots k other)
