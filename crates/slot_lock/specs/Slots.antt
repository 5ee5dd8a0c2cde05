-- What a slot map says of each page, and the changes of it
use Rattle.std.specs.Prelude.{◌≡◌, ◌≢◌, ℕ, ◌+◌, ◌-◌, ◌^◌, ◌<◌, ◌≤◌, ◌⊎◌, Bool, true, false}
use Rattle.std.specs.Prelude.{if◌then◌else◌, Option, Some, None, is_some}
use Rattle.vm_base.specs.declared.page.PageRange.{PageRange}
use Rattle.vm_base.specs.declared.info.PageInfo.{PageInfo}
use Rattle.vm_base.specs.declared.info.Meta.{Meta}
use Rattle.vm_base.specs.declared.rights.Prot.{Prot}
use Rattle.vm_base.specs.Functions.{put, over, across, has}
use Rattle.vm_base.specs.Pages.{IsPage, IsPageRange}
use Rattle.vm_base.specs.Runs.{NoneIn, LiesIn}
use Rattle.vm_base.specs.Info.{advance, info_from, info_file_page, is_leaf, unused, frame_of}
use Rattle.vm_base.specs.Info.{is_recorded, info_with_prot, info_without_frame}
use Rattle.slot_lock.specs.declared.slot_map.FreePage.{FreePage}
use Rattle.slot_lock.specs.declared.slot_map.Fit.{Fit}
use Rattle.slot_lock.specs.declared.slot_map.Fit.TheVariants.{Cut, Fits}
use Rattle.slot_lock.specs.declared.slot_map.Got.{Got}
use Rattle.slot_lock.specs.declared.slot_map.Got.TheVariants.{Split, Locked, Held}

-- What a slot map says of each page: what it has, who owns its slot, and whether a slot begins at
-- it
pub record Slots : Type 0 where
  pub info : ℕ → Option PageInfo
  pub owner : ℕ → Option ℕ
  pub edge : ℕ → Bool

-- the pages from a up to b
abbrev pub between : ℕ → ℕ → PageRange
between a b = record { first = a; end = b }

-- the pages from a up to b are one slot
pub record IsSlot (s : Slots) (a b : ℕ) : Type 0 where
  pub ordered : a < b
  pub begins : s.edge a ≡ true
  pub ends : s.edge b ≡ true
  pub inside : (p : ℕ) → a < p → p < b → s.edge p ≡ false

-- What holds of every slot map
pub record IsSlotMap (s : Slots) : Type 0 where
  pub limit : s.edge (2 ^ 35) ≡ true
  -- what is no page is never mapped and never held
  pub unmapped : (p : ℕ) → ¬ IsPage p → s.info p ≡ None
  pub free : (p : ℕ) → ¬ IsPage p → s.owner p ≡ None
  -- within a slot the owner is one, and the mapping goes on from page to page
  pub same_owner : (p : ℕ) → IsPage p → s.edge (p + 1) ≡ false → s.owner (p + 1) ≡ s.owner p
  pub goes_on : (p : ℕ) → IsPage p → s.edge (p + 1) ≡ false → s.info (p + 1) ≡ info_from (s.info p) 1
  -- a page with a frame or a recorded core is a slot of its own
  pub alone : (p : ℕ) → is_leaf (s.info p) ≡ true → (s.edge p ≡ true) × (s.edge (p + 1) ≡ true)
  -- the file page of each page is small, so that the pages of any range have file pages that are
  -- numbers
  pub fits : (p : ℕ) → info_file_page (s.info p) < 2 ^ 36

-- the page is a slot of its own, which nobody holds
pub record IsFreeSlot (s : Slots) (page : ℕ) : Type 0 where
  pub slot : IsSlot s page (page + 1)
  pub free : s.owner page ≡ None

-- that page has this
pub record IsFreePage (s : Slots) (page : ℕ) (found : FreePage) : Type 0 where
  pub alone : IsFreeSlot s page
  pub info : found.info ≡ s.info page

-- nothing is mapped and nothing is held
pub record IsNew (s : Slots) : Type 0 where
  pub unmapped : (p : ℕ) → s.info p ≡ None
  pub free : (p : ℕ) → s.owner p ≡ None

-- ---- changes

-- the pages from a up to b have this owner, and all else stays
abbrev pub with_owner : Slots → ℕ → ℕ → Option ℕ → Slots
with_owner s a b owner = record s { owner = over s.owner (has (between a b)) owner }

-- the pages of the range are unmapped, and all else stays
abbrev pub cleared : Slots → PageRange → Slots
cleared s range = record s { info = over s.info (has range) None }

-- the pages of the range are mapped anew, each later one to the next file page, and all else stays
abbrev pub mapped : Slots → PageRange → Meta → Slots
mapped s range meta = record s {
  info = across s.info (has range)
      (λ p. Some (unused (advance meta (p - range.first))));
}

-- the pages of the range have this protection and no recorded core, and all else stays
abbrev pub protected : Slots → PageRange → Prot → Slots
protected s range prot =
    record s { info = across s.info (has range) (λ p. info_with_prot prot (s.info p)) }

-- one page has this, and all else stays
abbrev pub with_info : Slots → ℕ → Option PageInfo → Slots
with_info s page info = record s { info = put s.info page info }

-- ---- divisions and joins

-- Slots of this owner were divided, a new one begins at the page, and nothing else changed
pub record Divides (s t : Slots) (owner : Option ℕ) (at : ℕ) : Type 0 where
  pub info : t.info ≡ s.info
  pub owners : t.owner ≡ s.owner
  pub kept : (p : ℕ) → s.edge p ≡ true → t.edge p ≡ true
  pub was_inside : s.edge at ≡ false
  pub begins : t.edge at ≡ true
  pub elsewhere : (p : ℕ) → s.owner p ≢ owner → t.edge p ≡ s.edge p

-- no edge changes but inside the slot that has the page
pub record OnlySlotOf (s t : Slots) (page : ℕ) : Type 0 where
  pub slot : PageRange
  pub is_slot : IsSlot s slot.first slot.end
  pub low : slot.first ≤ page
  pub high : page < slot.end
  pub outside : (p : ℕ) → (p ≤ slot.first) ⊎ (slot.end ≤ p) → t.edge p ≡ s.edge p

-- the first edge of the range that a slot crosses: its start before its end
abbrev pub crossed_edge : Slots → PageRange → ℕ
crossed_edge s range = if s.edge range.first then range.end else range.first

-- slots begin inside the slot at these of its pages, and all else stays
abbrev pub divided : Slots → PageRange → (ℕ → Bool) → Slots
divided s slot begins =
    record s { edge = across s.edge (has (between (slot.first + 1) slot.end)) begins }

-- The slot that crosses the page was divided into parts, and all else stays. Which pages begin a
-- part turns on the map: they are given by the slot and the page that it crosses
pub record DividesAs (parts : PageRange → ℕ → ℕ → Bool) (s t : Slots) (at : ℕ) : Type 0 where
  pub slot : PageRange
  pub is_slot : IsSlot s slot.first slot.end
  pub above : slot.first < at
  pub below : at < slot.end
  pub now : t ≡ divided s slot (parts slot at)

-- The slot that begins at the page can be one with the slot before it: nobody holds them, they have
-- no frame and no recorded core, and the mapping goes on from one to the other
pub record CanBeOne (s : Slots) (at : ℕ) : Type 0 where
  pub page : IsPage at
  pub free : s.owner (at - 1) ≡ None
  pub next_free : s.owner at ≡ None
  pub no_leaf : is_leaf (s.info (at - 1)) ≡ false
  pub next_no_leaf : is_leaf (s.info at) ≡ false
  pub goes_on : s.info at ≡ info_from (s.info (at - 1)) 1

-- Slots that nobody holds were joined, and nothing else changed
pub record Joins (s t : Slots) : Type 0 where
  pub info : t.info ≡ s.info
  pub owners : t.owner ≡ s.owner
  pub kept : (p : ℕ) → s.edge p ≡ false → t.edge p ≡ false
  pub elsewhere : (p : ℕ) → s.owner p ≢ None → t.edge p ≡ s.edge p
  pub removed : (p : ℕ) × (s.edge p ≡ true) × (t.edge p ≡ false)
  pub could : (p : ℕ) → s.edge p ≡ true → t.edge p ≡ false → CanBeOne s p

-- no slot begins at the page, and all else stays
abbrev pub without_edge : Slots → ℕ → Slots
without_edge s at = record s { edge = put s.edge at false }

-- The page's slot ends where a slot of valid pages begins. Both are unheld, without frame and
-- recorded core, and the second's pages go on from the first's
pub record CanJoin (s : Slots) (page at : ℕ) : Type 0 where
  pub above : page < at
  pub next : (p : ℕ) → page < p → p < at → s.edge p ≡ false
  pub edge : s.edge at ≡ true
  pub below_limit : at < 2 ^ 35
  pub free : s.owner page ≡ None
  pub next_free : s.owner at ≡ None
  pub no_leaf : is_leaf (s.info page) ≡ false
  pub next_no_leaf : is_leaf (s.info at) ≡ false
  pub goes_on : s.info at ≡ info_from (s.info page) (at - page)

-- the page's slot was joined with the next one
pub record Folds (s t : Slots) (page : ℕ) : Type 0 where
  pub at : ℕ
  pub could : CanJoin s page at
  pub now : t ≡ without_edge s at

-- ---- locking

-- the slot of the cursor reaches past the pages from the cursor up to end, on one side or the other
abbrev pub Crosses : Slots → ℕ → ℕ → Type 0
Crosses s cursor end = (s.edge cursor ≡ false) ⊎ ((p : ℕ) → cursor < p → p ≤ end → s.edge p ≡ false)

-- the slot from the cursor up to b was free, and the core owns it now
pub record Locks (s t : Slots) (core cursor end b : ℕ) : Type 0 where
  pub slot : IsSlot s cursor b
  pub by_end : b ≤ end
  pub was_free : NoneIn s.owner cursor b
  pub now : t ≡ with_owner s cursor b (Some core)

-- a slot begins at the page and ends by another
abbrev pub IsSlotBy : Slots → ℕ → ℕ → Type 0
IsSlotBy s first end = (b : ℕ) × IsSlot s first b × (b ≤ end)

-- the core owned the slot from the cursor up to b, and nobody does now
pub record Unlocks (s t : Slots) (core cursor end b : ℕ) : Type 0 where
  pub slot : IsSlot s cursor b
  pub by_end : b ≤ end
  pub was_held : (p : ℕ) → cursor ≤ p → p < b → s.owner p ≡ Some core
  pub now : t ≡ with_owner s cursor b None

-- the cursor's slot, which is free and crosses an edge of the pages, is divided
pub record Splits (s t : Slots) (cursor end : ℕ) : Type 0 where
  pub was_free : s.owner cursor ≡ None
  pub crosses : Crosses s cursor end
  pub divides : (at : ℕ) × IsPage at × Divides s t None at
  pub only : OnlySlotOf s t cursor

-- what one step at the cursor does
abbrev pub Steps : Slots → Slots → ℕ → ℕ → ℕ → Got → Type 0
Steps s t core cursor end Split = Splits s t cursor end
Steps s t core cursor end (Locked b) = Locks s t core cursor end b
Steps s t core cursor end (Held by) = (by ≢ core) × (s.owner cursor ≡ Some by) × (t ≡ s)

-- ---- what a core holds

-- the core owns each page
pub record OwnsAll (s : Slots) (core first end : ℕ) : Type 0 where
  pub held : (p : ℕ) → first ≤ p → p < end → s.owner p ≡ Some core

-- no slot crosses an edge of the range
pub record IsCut (s : Slots) (range : PageRange) : Type 0 where
  pub begins : s.edge range.first ≡ true
  pub ends : s.edge range.end ≡ true

-- the core holds every page of the range, and no slot crosses an edge of it
pub record IsHeld (s : Slots) (core : ℕ) (range : PageRange) : Type 0 where
  pub pages : IsPageRange range
  pub cut : IsCut s range
  pub held : (p : ℕ) → range.first ≤ p → p < range.end → s.owner p ≡ Some core

-- a slot crosses an edge of the range
abbrev pub IsCrossed : Slots → PageRange → Type 0
IsCrossed s range = (s.edge range.first ≡ false) ⊎ (s.edge range.end ≡ false)

-- the slot that crosses the range's start, or else its end, is divided
pub record Cuts (s t : Slots) (core : ℕ) (range : PageRange) : Type 0 where
  pub crossed : IsCrossed s range
  pub divides : (at : ℕ) × IsPage at × Divides s t (Some core) at
  pub only : OnlySlotOf s t (crossed_edge s range)

-- what one step of a cut does
abbrev pub CutSteps : Slots → Slots → ℕ → PageRange → Fit → Type 0
CutSteps s t core range Cut = Cuts s t core range
CutSteps s t core range Fits = IsCut s range × (t ≡ s)

-- ---- what is said of divisions alone

abbrev pub IfSplit : Got → Type 0 → Type 0
IfSplit Split said = said
IfSplit (Locked b) said = Unit {0}
IfSplit (Held by) said = Unit {0}

abbrev pub IfCut : Fit → Type 0 → Type 0
IfCut Cut said = said
IfCut Fits said = Unit {0}

-- ---- frames, mappings and users of pages

-- the page is mapped so
abbrev pub HasMeta : Option PageInfo → Meta → Type 0
HasMeta None meta = ⊥
HasMeta (Some info) meta = info.meta ≡ meta

-- no page from first up to end has a frame
pub record NoFrames (s : Slots) (first end : ℕ) : Type 0 where
  pub none : NoneIn (λ p. frame_of (s.info p)) first end

-- the page was the first from a page on with a frame, and lost it
pub record LosesFrame (s t : Slots) (first end page frame : ℕ) : Type 0 where
  pub low : first ≤ page
  pub high : page < end
  pub before : NoFrames s first page
  pub had : frame_of (s.info page) ≡ Some frame
  pub now : t ≡ with_info s page (info_without_frame (s.info page))

-- n unmapped pages from start on lie in the range
pub record IsFreeRun (s : Slots) (range : PageRange) (n start : ℕ) : Type 0 where
  pub inside : LiesIn range n start
  pub free : NoneIn s.info start (start + n)

-- the core is recorded on a page of the range
abbrev pub IsUser : Slots → PageRange → ℕ → Type 0
IsUser s range core = (p : ℕ) × (has range p ≡ true) × (is_recorded (s.info p) core ≡ true)

-- every page of the range is mapped
abbrev pub AllMapped : Slots → PageRange → Type 0
AllMapped s range = (p : ℕ) → has range p ≡ true → is_some (s.info p) ≡ true
