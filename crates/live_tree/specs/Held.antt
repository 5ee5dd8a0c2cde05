-- The slots that a call holds, and what a commit does to them
use Rattle.std.specs.Prelude.{◌≡◌, ℕ, ◌+◌, ◌-◌, ◌<◌, ◌≤◌, leb, ◌&&◌, ◌⊎◌, cond, Bool, true, List, []}
use Rattle.std.specs.Prelude.{◌∷◌, ◌++◌, map}
use Rattle.vm_base.specs.declared.page.PageRange.{PageRange}
use Rattle.vm_base.specs.Info.{advance}
use Rattle.slot_lock.specs.declared.plan.Change.{Change}
use Rattle.slot_lock.specs.declared.plan.Change.TheVariants.{Put, Clear, Protect}
use Rattle.slot_lock.specs.Plan.{range_of, FitsFile}
use Rattle.live_levels.specs.declared.act.Act.{Act}
use Rattle.live_levels.specs.declared.act.Act.TheVariants as ActOf
use Rattle.live_levels.specs.Replay.{dated}
use Rattle.live_levels.specs.Slots.{SlotView, Suits, changed}

-- held slots, from the page `first` up to `end`
pub record HeldView : Type 0 where
  pub first : ℕ
  pub end : ℕ
  pub slots : List SlotView

-- the slots lie side by side, from the page `first` up to `end`
abbrev pub SideBySide : ℕ → ℕ → List SlotView → Type 0
SideBySide first end [] = first ≡ end
SideBySide first end (s ∷ ss) = (s.first ≡ first) × SideBySide (first + s.count) end ss

-- with one slot more, on the right
abbrev pub with_slot : HeldView → SlotView → HeldView
with_slot h s = record h { end = h.end + s.count; slots = h.slots ++ s ∷ [] }

-- what the change does to a slot in its range: a mapping goes on from slot to slot
abbrev pub act_on : Change → SlotView → Act
act_on (Put range meta) s = ActOf.Put (advance meta (s.first - range.first))
act_on (Clear range) s = ActOf.Clear
act_on (Protect range prot) s = ActOf.Protect prot

-- the slot lies in the range
abbrev pub is_inside : PageRange → SlotView → Bool
is_inside range s = leb range.first s.first && leb (s.first + s.count) range.end

-- a slot after the commit: one change more where it lies in the range, and else as it was
abbrev pub committed : ℕ → Change → SlotView → SlotView
committed ticket change s =
    cond (is_inside (range_of change) s) (changed s (dated ticket (act_on change s))) s

-- the slot lies in the range or has no page of it
abbrev pub CrossesNoEdge : PageRange → SlotView → Type 0
CrossesNoEdge range s =
    (is_inside range s ≡ true) ⊎ ((s.first + s.count ≤ range.first) ⊎ (range.end ≤ s.first))

-- a slot in the range has room for one change more
abbrev pub HasRoom : PageRange → SlotView → Type 0
HasRoom range s = is_inside range s ≡ true → 0 < s.room

-- the act can be done to the slot, in room that there is
pub record CanTake (act : Act) (s : SlotView) : Type 0 where
  pub room : 0 < s.room
  pub suits : Suits act s.count

-- the file pages of what the change maps are numbers that a file can have
abbrev pub FitsFiles : Change → Type 0
FitsFiles (Put range meta) = FitsFile meta (range.end - range.first)
FitsFiles (Clear range) = Unit {0}
FitsFiles (Protect range prot) = Unit {0}

-- the held pages have all pages of the range
abbrev pub Covers : HeldView → PageRange → Type 0
Covers h range = (h.first ≤ range.first) × (range.end ≤ h.end)

abbrev pub without_room : SlotView → SlotView
without_room s = record s { room = 0 }

-- the slots are the same but for the room that their histories have
abbrev pub AreAlike : List SlotView → List SlotView → Type 0
AreAlike ss ts = map without_room ss ≡ map without_room ts
