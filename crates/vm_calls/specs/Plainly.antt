-- What decisions have to do with the plain page map
use Rattle.std.specs.Prelude.{◌≡◌, ℕ, ◌*◌, ◌<◌, ◌↔◌, true, Option, None, Some, Ok, Err}
use Rattle.vm_base.specs.declared.page.PageRange.{PageRange}
use Rattle.vm_base.specs.declared.info.PageInfo.{PageInfo}
use Rattle.vm_base.specs.declared.requests.Request.{Request}
use Rattle.vm_base.specs.declared.replies.Reply.{Reply}
use Rattle.vm_base.specs.declared.replies.Reply.TheVariants.{Mapped, Done, Refused}
use Rattle.vm_base.specs.declared.rights.Mode.{Mode}
use Rattle.vm_base.specs.Functions.{has}
use Rattle.vm_base.specs.Plain.{File, PageEntry, Plain, mode_of}
use Rattle.vm_base.specs.Apply.{after_mapping, after_unmapping, after_protecting, entry_reply, stored_entry, Applies}
use Rattle.slot_lock.specs.declared.plan.Change.TheVariants.{Put, Clear, Protect}
use Rattle.slot_lock.specs.declared.plan.Touch.{Touch}
use Rattle.slot_lock.specs.declared.plan.Plan.{Plan}
use Rattle.slot_lock.specs.declared.plan.Plan.TheVariants as PlanOf
use Rattle.slot_lock.specs.declared.plan.Goal.{Goal}
use Rattle.slot_lock.specs.declared.plan.Goal.TheVariants as To
use Rattle.slot_lock.specs.Plan.{IsSoundPlan, HasTarget, goal_range, goal_plan}
use Rattle.slot_lock.specs.Slots.{Slots}
use Rattle.vm_calls.specs.declared.decision.Decision.{Decision}
use Rattle.vm_calls.specs.declared.decision.Decision.TheVariants.{Refuse, Act, Again}
use Rattle.vm_calls.specs.Checks.{checked, HasModes}
use Rattle.vm_calls.specs.Decisions.{Decides, HasMapped, IsNoAccess, AreAlike}
use Rattle.vm_base.specs.Places.{IsPlace}

-- the plain map has the page as the slot shows it: backed and protected alike, with whatever own
-- bytes
abbrev pub ShowsPage : Option PageEntry → Option PageInfo → Type 0
ShowsPage None None = Unit {0}
ShowsPage (Some e) (Some info) = (e.back ≡ info.meta.back) × (e.prot ≡ info.meta.prot)
ShowsPage None (Some info) = ⊥
ShowsPage (Some e) None = ⊥

-- The slots show the plain map's pages of the range, and its files are open for the same as these.
-- Of other pages nothing is said: a few slots may have been lent.
pub record IsShown (t : Plain) (files : ℕ → Option File) (s : Slots) (r : PageRange) : Type 0 where
  pub pages : (p : ℕ) → has r p ≡ true → ShowsPage (t.entry p) (s.info p)
  pub modes : HasModes t files

-- the reply of a call that acts on the range
abbrev pub answer_to : Goal → PageRange → Reply
answer_to (To.Place place target) range = Mapped (range.first * 4096)
answer_to (To.Change (Put r meta)) range = Mapped (range.first * 4096)
answer_to (To.Change (Clear r)) range = Done
answer_to (To.Change (Protect r prot)) range = Done
answer_to (To.Access touch) range = Done

-- the plain map after the change of the range
abbrev pub left_by : Plain → Goal → PageRange → Plain
left_by t (To.Place place target) range = after_mapping t range place.meta.back place.meta.prot
left_by t (To.Change (Put r meta)) range = after_mapping t range meta.back meta.prot
left_by t (To.Change (Clear r)) range = after_unmapping t range
left_by t (To.Change (Protect r prot)) range = after_protecting t range prot
left_by t (To.Access touch) range = t

-- The decision is the plain map's answer to the request; a call that looks elsewhere has none yet,
-- and some page of its target is mapped.
abbrev pub IsPlain : Plain → ℕ → Request → Goal → Decision → Type 0
IsPlain t core request goal (Refuse e) = Applies IsPlace t core request (Refused e) t
IsPlain t core request goal (Act range shoot) =
    Applies IsPlace t core request (answer_to goal range) (left_by t goal range)
IsPlain t core request goal Again = HasMapped t.entry (goal_range goal)

abbrev pub DecisionsArePlain : Type 0
DecisionsArePlain =
    (t : Plain) (files : ℕ → Option File) (s : Slots) (core : ℕ) (request : Request) (goal : Goal)
    (d : Decision)
    → core < 64 → IsShown t files s (goal_range goal)
    → checked (λ n. mode_of (files n)) core request ≡ Ok (goal_plan goal)
    → HasTarget goal → IsNoAccess goal
    → Decides files s goal d → IsPlain t core request goal d

-- A decision looks at the pages of its footprint alone
abbrev pub DecisionsLookAtFootprints : Type 0
DecisionsLookAtFootprints =
    (files : ℕ → Option File) (s t : Slots) (goal : Goal) (d : Decision)
    → AreAlike (goal_range goal) s t → Decides files s goal d → Decides files t goal d

-- ---- what the check decides

-- What the check lets through is a sound plan
abbrev pub CheckedPlansAreSound : Type 0
CheckedPlansAreSound =
    (modes : ℕ → Option Mode) (core : ℕ) (request : Request) (plan : Plan)
    → core < 64 → checked modes core request ≡ Ok plan → IsSoundPlan plan

-- what the check answers is the plain map's answer, which it leaves as it is
abbrev pub RefusalsArePlain : Type 0
RefusalsArePlain =
    (t : Plain) (files : ℕ → Option File) (core : ℕ) (request : Request) (reply : Reply)
    → HasModes t files → checked (λ n. mode_of (files n)) core request ≡ Err reply
    → Applies IsPlace t core request reply t

-- ---- accesses

-- the plain map after an access: a store that was done changes its byte
abbrev pub touched_by : Plain → Touch → Reply → Plain
touched_by t touch Done = stored_entry t touch.page (t.entry touch.page) touch.offset touch.byte
touched_by t touch _ = t

-- the entry of its page answers an access, and says what a store changes
abbrev pub EntryAnswers : Plain → Touch → Reply → Plain → Type 0
EntryAnswers t touch y u =
    (entry_reply t.file (t.entry touch.page) touch.access touch.offset ≡ Some y)
    × (u ≡ touched_by t touch y)

-- a request that the check finds to be an access is answered by the entry of its page
abbrev pub AccessesArePlain : Type 0
AccessesArePlain =
    (t : Plain) (modes : ℕ → Option Mode) (core : ℕ) (request : Request) (touch : Touch)
    → checked modes core request ≡ Ok (PlanOf.Touch touch)
    → (y : Reply) (u : Plain) → Applies IsPlace t core request y u ↔ EntryAnswers t touch y u
