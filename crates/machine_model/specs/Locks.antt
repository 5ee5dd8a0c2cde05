-- The steps by which a call locks its pages from left to right, and unlocks them
use Rattle.std.specs.Prelude.{◌≡◌, ℕ, ◌+◌, ◌⊎◌, ◌==◌, nat_le, if◌then◌else◌, Option, None, Some}
use Rattle.vm_base.specs.declared.page.PageRange.{PageRange}
use Rattle.vm_base.specs.declared.replies.Reply.{Reply}
use Rattle.slot_lock.specs.declared.plan.Touch.{Touch}
use Rattle.slot_lock.specs.declared.plan.Goal.{Goal}
use Rattle.slot_lock.specs.declared.plan.Goal.TheVariants as To
use Rattle.slot_lock.specs.Plan.{goal_range}
use Rattle.slot_lock.specs.declared.slot_map.Got.{Got}
use Rattle.slot_lock.specs.declared.slot_map.Got.TheVariants.{Split, Locked, Held}
use Rattle.vm_base.specs.Pages.{IsPage}
use Rattle.slot_lock.specs.Slots.{Slots, Steps, Unlocks, Joins, IsSlotMap, between}
use Rattle.machine_model.specs.declared.event.Blocker.TheVariants.{Slot}
use Rattle.machine_model.specs.declared.event.Outcome.{Outcome}
use Rattle.machine_model.specs.declared.event.Outcome.TheVariants.{Wait}
use Rattle.machine_model.specs.declared.phase.Phase.{Phase}
use Rattle.machine_model.specs.declared.phase.Phase.TheVariants.{Lock, Find, Decide, Try, Settle}
use Rattle.machine_model.specs.World.{World}
use Rattle.machine_model.specs.Actions.{Idles, Becomes, to, let_go}

-- ---- Lock

-- all pages of the goal are to be locked, from the first on
abbrev pub locking : Goal → Phase
locking goal = Lock goal (goal_range goal).first

-- all pages are held
abbrev pub all_locked : Goal → Phase
all_locked (To.Place place target) = Find place target
all_locked (To.Change change) = Decide change
all_locked (To.Access touch) = Settle touch

-- the pages up to b are held now
abbrev pub locked_to : Goal → ℕ → Phase
locked_to goal b = if nat_le (goal_range goal).end b then all_locked goal else Lock goal b

-- what locking the next slot came to: it was divided first, it is held now, or another core holds it
abbrev pub LocksTo : World → ℕ → Goal → Slots → Got → Outcome → World → Type 0
LocksTo w c goal t Split o v = Becomes (record w { slots = t }) o v
LocksTo w c goal t (Locked b) o v = Becomes (to c (locked_to goal b) (record w { slots = t })) o v
LocksTo w c goal t (Held by) o v = (o ≡ Wait (Slot by)) × (v ≡ w)

-- One step towards holding the pages from the cursor on. Which slot is divided, and where, the slot
-- map chooses.
abbrev pub LocksNext : World → ℕ → Goal → ℕ → Outcome → World → Type 0
LocksNext w c goal cursor o v =
    (got : Got)
    × ((t : Slots) × Steps w.slots t c cursor (goal_range goal).end got × LocksTo w c goal t got o v)

-- ---- Unlock and Release: the leftmost slot is let go

-- what is still held once the pages up to b are let go
abbrev pub held_after : PageRange → ℕ → Option PageRange
held_after held b = if b == held.end then None else Some (between b held.end)

-- the next slot is unlocked; with the last one the reply is given
abbrev pub UnlocksNext : World → ℕ → PageRange → Reply → Outcome → World → Type 0
UnlocksNext w c held reply o v =
    (b : ℕ) × ((t : Slots) × Unlocks w.slots t c held.first held.end b
    × Becomes (to c (let_go (held_after held b) reply) (record w { slots = t })) o v)

-- an access lets its page go, and is tried again
abbrev pub Releases : World → ℕ → Touch → Outcome → World → Type 0
Releases w c touch o v =
    (b : ℕ) × ((t : Slots) × Unlocks w.slots t c touch.page (touch.page + 1) b
    × Becomes (to c (Try touch) (record w { slots = t })) o v)

-- ---- Fold

-- Slots that nobody holds are joined at a page, where that is possible. Which ones, and when, the
-- slot map chooses.
abbrev pub FoldsAt : World → ℕ → Outcome → World → Type 0
FoldsAt w page o v =
    Idles w o v
    ⊎ (IsPage page
    × ((t : Slots) × Joins w.slots t × IsSlotMap t × Becomes (record w { slots = t }) o v))
