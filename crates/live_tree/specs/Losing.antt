-- What held pages lose by a change that takes their frames
use Rattle.std.specs.Prelude.{◌≡◌, ℕ, ◌<◌, ◌≤◌, ◌↔◌, true, false, if◌then◌else◌, List, Option, None, map}
use Rattle.vm_base.specs.declared.info.PageInfo.{PageInfo}
use Rattle.vm_base.specs.declared.page.PageRange.{PageRange}
use Rattle.vm_base.specs.Cores.{members}
use Rattle.vm_base.specs.Functions.{has}
use Rattle.vm_base.specs.Info.{is_leaf}
use Rattle.slot_lock.specs.declared.framed.Framed.{Framed}
use Rattle.slot_lock.specs.Framed.{ListsFrames, frames_in}
use Rattle.slot_lock.specs.Slots.{Slots, IsUser}
use Rattle.live_levels.specs.Slots.{SlotView}

-- these are the frames of the pages from first up to end that have one, in order of pages
abbrev pub AreFrames : (ℕ → Option ℕ) → ℕ → ℕ → List ℕ → Type 0
AreFrames frame first end frames =
    (xs : List Framed) × ListsFrames frame first end xs × (frames ≡ map (λ (x : Framed). x.frame) xs)

-- these are the cores that are recorded on some page of the range
abbrev pub AreUsers : Slots → PageRange → ℕ → Type 0
AreUsers s range cores = (d : ℕ) → (members cores d ≡ true) ↔ IsUser s range d

-- the cores that are recorded on some page of the range, and the frames of its pages
pub record AreLost (s : Slots) (range : PageRange) (set : ℕ) (list : List ℕ) : Type 0 where
  pub cores : AreUsers s range set
  pub frames : AreFrames (frames_in s) range.first range.end list

-- what the slot's first page has, if it lies in the range
abbrev pub content_in : PageRange → SlotView → Option PageInfo
content_in range s = if has range s.first then s.content else None

-- the slot has some page, and only one if that has a frame or a recorded core
pub record IsAlone (s : SlotView) : Type 0 where
  pub some : 1 ≤ s.count
  pub alone : 1 < s.count → is_leaf s.content ≡ false
