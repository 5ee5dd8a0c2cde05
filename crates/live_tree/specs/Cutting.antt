-- Held slots of which one is cut into smaller ones
use Rattle.std.specs.Prelude.{◌≡◌, ℕ, ◌+◌, ◌-◌, ◌<◌, ◌≤◌, List, ◌∷◌, ◌++◌, length, map, take, drop, get_or}
use Rattle.std.specs.Prelude.{Option, Some, All, IsSome}
use Rattle.std.specs.declared.sync.MutexGuard.{MutexGuard}
use Rattle.vm_base.specs.declared.info.PageInfo.{PageInfo}
use Rattle.vm_base.specs.declared.page.PageRange.{PageRange}
use Rattle.vm_base.specs.Info.{info_from}
use Rattle.live_levels.specs.Slots.{SlotView}
use Rattle.live_levels.specs.Nexts.{Noted}
use Rattle.live_tree.specs.Guards.{no_slot, slot_of}
use Rattle.live_tree.specs.Held.{HeldView, SideBySide, CrossesNoEdge}
use Rattle.live_tree.specs.declared.held.cut.Cutting.{Cutting}
use Rattle.live_tree.specs.declared.held.cut.Cutting.TheVariants.{Cut, Fits, Unseen, NoMemory, Lost}

-- the core is to lock the slot first, and its pages have what a slot had there that begins at the page
-- `first` with this content
pub record IsPartOf (core first : ℕ) (content : Option PageInfo) (s : SlotView) : Type 0 where
  pub owned : s.owner ≡ Some core
  pub from : first ≤ s.first
  pub carried : s.content ≡ info_from content (s.first - first)

-- 512 slots came in the place of one: they have its pages, as these were, and are the core's
pub record IsCutInto (core : ℕ) (s : SlotView) (parts : List SlotView) : Type 0 where
  pub count : length parts ≡ 512
  pub pages : SideBySide s.first (s.first + s.count) parts
  pub each : All (IsPartOf core s.first s.content) parts

-- the first held slot that crosses an edge of the range was replaced by its parts, and the others stay
pub record CutsFirst (core : ℕ) (range : PageRange) (h k : HeldView) : Type 0 where
  pub left : List SlotView
  pub slot : SlotView
  pub right : List SlotView
  pub parts : List SlotView
  pub before : h.slots ≡ left ++ slot ∷ right
  pub after : k ≡ record h { slots = left ++ parts ++ right }
  pub fits : All (CrossesNoEdge range) left
  pub crosses : ¬ CrossesNoEdge range slot
  pub cut : IsCutInto core slot parts

module _ {S : Type 0} (stepped : S → ℕ → S → Type 0) (before now : S) (h k : HeldView) where
  -- a step was noted exactly where a slot was cut, whether or not its parts were found
  abbrev pub CutsNext : ℕ → PageRange → Cutting → Type 0
  CutsNext core range Cut = Noted stepped before now × CutsFirst core range h k
  CutsNext core range Unseen = Noted stepped before now × (k ≡ h)
  CutsNext core range Fits = (now ≡ before) × (k ≡ h) × All (CrossesNoEdge range) h.slots
  CutsNext core range NoMemory = (now ≡ before) × (k ≡ h)
  CutsNext core range Lost = (now ≡ before) × (k ≡ h)

-- so many locked slots were added on the right, side by side up to a page, which are parts of a slot
pub record AddsSlots (core first : ℕ) (content : Option PageInfo) (end n : ℕ) (gs hs : List (Option (MutexGuard SlotView))) : Type 0 where
  pub more : List (Option (MutexGuard SlotView))
  pub are : hs ≡ gs ++ more
  pub count : length more ≡ n
  pub some : All IsSome more
  pub chain : SideBySide first end (map slot_of more)
  pub each : All (IsPartOf core first content) (map slot_of more)

-- the slot at the place was replaced by its parts, all locked, and the others stay
pub record PutsParts (core at : ℕ) (gs hs : List (Option (MutexGuard SlotView))) : Type 0 where
  pub more : List (Option (MutexGuard SlotView))
  pub are : hs ≡ take at gs ++ (more ++ drop (at + 1) gs)
  pub some : All IsSome more
  pub cut : IsCutInto core (get_or (map slot_of gs) at no_slot) (map slot_of more)

module _ {S : Type 0} (stepped : S → ℕ → S → Type 0) (before now : S) (gs hs : List (Option (MutexGuard SlotView))) where
  -- so of the slot at this place
  abbrev pub CutsAt : ℕ → ℕ → Cutting → Type 0
  CutsAt core at Cut = Noted stepped before now × PutsParts core at gs hs
  CutsAt core at Unseen = Noted stepped before now × (hs ≡ gs)
  CutsAt core at Fits = ⊥
  CutsAt core at NoMemory = (now ≡ before) × (hs ≡ gs)
  CutsAt core at Lost = (now ≡ before) × (hs ≡ gs)

-- the place of the first slot that crosses an edge of the range
pub record IsFirstCrossing (range : PageRange) (ss : List SlotView) (at : ℕ) : Type 0 where
  pub within : at < length ss
  pub before : All (CrossesNoEdge range) (take at ss)
  pub crosses : (d : SlotView) → ¬ CrossesNoEdge range (get_or ss at d)
