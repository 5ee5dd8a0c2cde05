-- What a change of held slots needs, and what it makes of them
use Rattle.std.specs.Prelude.{◌≡◌, ℕ, ◌⊎◌, false, map, All, Option}
use Rattle.vm_base.specs.declared.page.PageRange.{PageRange}
use Rattle.vm_base.specs.Cores.{members}
use Rattle.vm_base.specs.Functions.{put}
use Rattle.vm_base.specs.Pages.{IsPageRange}
use Rattle.vm_base.specs.Plain.{File}
use Rattle.vm_base.specs.declared.replies.Errno.{Errno}
use Rattle.vm_base.specs.declared.replies.Reply.{Reply}
use Rattle.vm_base.specs.declared.replies.Reply.TheVariants.{Refused}
use Rattle.slot_lock.specs.declared.plan.Change.{Change}
use Rattle.slot_lock.specs.Plan.{range_of}
use Rattle.slot_lock.specs.Slots.{Slots}
use Rattle.vm_calls.specs.declared.decision.Decision.TheVariants.{Act, Refuse}
use Rattle.vm_calls.specs.Decisions.{DecidesChange}
use Rattle.machine_model.specs.Changes.{reply_to}
use Rattle.live_tree.specs.Held.{AreAlike, HeldView, Covers, CrossesNoEdge, HasRoom, FitsFiles, committed}
use Rattle.live_tree.specs.Losing.{AreUsers}
use Rattle.live_tree.specs.Shown.{ChangesPages, shown}
use Rattle.seats.specs.Growing.{Steps}
use Rattle.seats.specs.Notes.{SeatView}
use Rattle.live_space.specs.InFlight.{HoldsJust}

-- the change can be made in the held slots: they have its pages, none crosses an edge of them, their
-- histories have room for it, and its file pages are numbers that a file can have
pub record IsReady (h : HeldView) (change : Change) : Type 0 where
  pub pages : IsPageRange (range_of change)
  pub covers : Covers h (range_of change)
  pub edges : All (CrossesNoEdge (range_of change)) h.slots
  pub room : All (HasRoom (range_of change)) h.slots
  pub files : FitsFiles change

-- these are the cores that are recorded on some page of the range, but for this one
abbrev pub AreOthers : Slots → PageRange → ℕ → ℕ → Type 0
AreOthers s range core others =
    (cores : ℕ) × AreUsers s range cores × (members others ≡ put (members cores) core false)

-- the last step that was noted is a plain one, and under its ticket the change was made in the held
-- slots that lie in its range, and in no other
pub record Made (change : Change) (h : HeldView) (t : SeatView) (k : HeldView) : Type 0 where
  pub ticket : ℕ
  pub before : SeatView
  pub step : Steps before ticket t
  pub slots : k ≡ record h { slots = map (committed ticket change) h.slots }
  pub pages : ChangesPages change h k

-- it was made in them, once their histories had room for it
pub record MadeIn (change : Change) (h : HeldView) (t : SeatView) (k : HeldView) : Type 0 where
  pub ready : HeldView
  pub first : ready.first ≡ h.first
  pub end : ready.end ≡ h.end
  pub alike : AreAlike ready.slots h.slots
  pub made : Made change ready t k

-- the reply is what the held slots decide: the change is refused, and they stay, or it was made in them
abbrev pub Changes : (ℕ → Option File) → Change → HeldView → SeatView → HeldView → Reply → Type 0
Changes files change h t k reply =
    ((errno : Errno) × DecidesChange files (shown h.slots) change (Refuse errno) × (reply ≡ Refused errno) × (k ≡ h))
    ⊎ ((cores : ℕ) × DecidesChange files (shown h.slots) change (Act (range_of change) cores)
    × (reply ≡ reply_to change) × MadeIn change h t k)

-- so with just the pages of the change held
abbrev pub ChangesJust : (ℕ → Option File) → Change → SeatView → HeldView → Reply → Type 0
ChangesJust files change t k reply = (h : HeldView) × HoldsJust (range_of change) h × Changes files change h t k reply
