-- What holds between two steps: a call does what its request asks for, it owns the pages that its
-- phase says and no others, no slot crosses an edge of them or of those that are about to change,
-- and each call that has no reply yet finds room for it in the log.
use Rattle.std.specs.Prelude.{◌≡◌, ℕ, zero, suc, ◌+◌, ◌<◌, ◌≤◌, Bool, true, false, if◌then◌else◌, List}
use Rattle.std.specs.Prelude.{[], ◌∷◌, length, Option, None, Some, Ok, is_some}
use Rattle.vm_base.specs.declared.info.PageInfo.{PageInfo}
use Rattle.vm_base.specs.declared.page.PageRange.{PageRange}
use Rattle.vm_base.specs.declared.requests.Request.{Request}
use Rattle.vm_base.specs.declared.rights.Access.{Access}
use Rattle.vm_base.specs.Info.{frame_of, is_recorded}
use Rattle.vm_base.specs.Pages.{IsPage, IsPageRange}
use Rattle.vm_base.specs.Plain.{File}
use Rattle.vm_base.specs.Rights.{is_allowed}
use Rattle.slot_lock.specs.declared.plan.Plan.{Plan}
use Rattle.slot_lock.specs.declared.plan.Change.{Change}
use Rattle.slot_lock.specs.declared.plan.Change.TheVariants.{Put}
use Rattle.slot_lock.specs.declared.plan.Goal.{Goal}
use Rattle.slot_lock.specs.declared.plan.Goal.TheVariants as To
use Rattle.slot_lock.specs.declared.plan.Target.{Target}
use Rattle.slot_lock.specs.declared.plan.Target.TheVariants.{Hint, Run, Window}
use Rattle.slot_lock.specs.declared.plan.Touch.{Touch}
use Rattle.slot_lock.specs.Plan.{range_of, target_range, goal_range, IsTarget, HasTarget}
use Rattle.slot_lock.specs.Slots.{Slots, IsNew}
use Rattle.vm_calls.specs.declared.decision.Decision.TheVariants.{Act}
use Rattle.vm_calls.specs.Decisions.{Decides}
use Rattle.vm_calls.specs.Settling.{is_private_store}
use Rattle.refcache.specs.Sound.{AreReached}
use Rattle.machine_model.specs.declared.event.Event.{Event}
use Rattle.machine_model.specs.declared.event.Outcome.{Outcome}
use Rattle.vm_base.specs.declared.log.Entry.{Entry}
use Rattle.vm_base.specs.declared.log.Entry.TheVariants.{Answer, Detach}
use Rattle.machine_model.specs.declared.phase.Phase.{Phase}
use Rattle.machine_model.specs.declared.phase.Phase.TheVariants.{Free, Check, Lock, Find, Back, Cut}
use Rattle.machine_model.specs.declared.phase.Phase.TheVariants.{Post, Acks, Unlock, Want}
use Rattle.machine_model.specs.declared.phase.Phase.TheVariants.{Fill, CopyPost, CopyAcks, Install}
use Rattle.machine_model.specs.World.{World, Made, Memory, new_world}
use Rattle.machine_model.specs.Accesses.{is_past_end}
use Rattle.machine_model.specs.Changes.{checked_by}
use Rattle.machine_model.specs.Files.{back_of, file_frame, shows_file}
use Rattle.machine_model.specs.Holding.{plan_in, range_held, holds, awaits_in, taken_in, is_open}
use Rattle.machine_model.specs.Step.{Step}
use Rattle.vm_base.specs.Log.{nth}

-- ---- which request a call serves

-- the call with this number has a request that its arguments don't refuse, and that asks for this
-- plan
pub record Serves (made : Made) (requests : List Request) (core call : ℕ) (plan : Plan) : Type 0 where
  pub request : Request
  pub number : nth requests call ≡ Some request
  pub passed : checked_by made core request ≡ Ok plan

-- the same of a phase that may have no plan
abbrev pub ServesSome : Made → List Request → ℕ → ℕ → Option Plan → Type 0
ServesSome made requests core call None = Unit {0}
ServesSome made requests core call (Some plan) = Serves made requests core call plan

-- a call that has no reply yet does what its request asks for
abbrev pub IsAsked : Made → List Request → ℕ → ℕ → Phase → Type 0
IsAsked made requests core call (Check request) = nth requests call ≡ Some request
IsAsked made requests core call phase = ServesSome made requests core call (plan_in phase)

-- ---- edges

-- slots begin at both ends of the range
abbrev pub IsCutRange : (ℕ → Bool) → PageRange → Type 0
IsCutRange edge range = (edge range.first ≡ true) × (edge range.end ≡ true)

-- a slot begins at each end of what the call holds
abbrev pub IsCutFor : (ℕ → Bool) → Option PageRange → Type 0
IsCutFor edge None = Unit {0}
IsCutFor edge (Some held) = held.first < held.end → IsCutRange edge held

-- ---- what a call relies on

-- the page is mapped, allows the access, doesn't lie past the end of its file, and has this frame,
-- if it has one
abbrev pub IsUsable : (ℕ → Option File) → Option PageInfo → Access → Option ℕ → Type 0
IsUsable file None access frame = ⊥
IsUsable file (Some info) access frame =
    (is_allowed info.meta.prot access ≡ true) × (is_past_end file (Some info) ≡ false)
    × (info.frame ≡ frame)

-- the access is a store to a private page whose frame, this one, caches its file page: a copy is
-- due
pub record IsCopyDue (cached : ℕ → ℕ → Option ℕ) (info : Option PageInfo) (access : Access)
    (frame : ℕ) : Type 0 where
  pub store : is_private_store (back_of info) access ≡ true
  pub shown : shows_file cached (back_of info) frame ≡ true

-- of a page that has this frame, if it has one, a copy is due where it has one
abbrev pub IsWanted : (ℕ → ℕ → Option ℕ) → Option PageInfo → Access → Option ℕ → Type 0
IsWanted cached info access None = Unit {0}
IsWanted cached info access (Some old) = IsCopyDue cached info access old

-- a call that has taken no frame finds one that caches the page's file page, and that the page may
-- show
abbrev pub IsFillable : (ℕ → ℕ → Option ℕ) → Option PageInfo → Access → Option ℕ → Type 0
IsFillable cached info access (Some f) = Unit {0}
IsFillable cached info access None =
    (is_private_store (back_of info) access ≡ false)
    × ((g : ℕ) × (file_frame cached (back_of info) ≡ Some g))

-- a copy is due, since the frame is the file's
abbrev pub IsCopying : Made → Slots → (ℕ → ℕ → Option ℕ) → Touch → Type 0
IsCopying made s cached touch =
    (g : ℕ) × IsUsable made.file (s.info touch.page) touch.access (Some g)
    × IsCopyDue cached (s.info touch.page) touch.access g

-- the pages held let the call act on the range
abbrev pub IsChosen : Made → Slots → Goal → PageRange → Type 0
IsChosen made s goal range = (shoot : ℕ) × Decides made.file s goal (Act range shoot)

-- what a call with this goal changes
abbrev pub IsChangeOf : Goal → Change → Type 0
IsChangeOf (To.Place place target) change = change ≡ Put (range_of change) place.meta
IsChangeOf (To.Change planned) change = change ≡ planned
IsChangeOf (To.Access touch) change = ⊥

-- a mapping that can't go there looks elsewhere
abbrev pub IsPassed : Target → Type 0
IsPassed (Hint range) = Unit {0}
IsPassed (Run range) = Unit {0}
IsPassed Window = ⊥

-- these pages of the target, up to its end, are still held
pub record IsRest (target held : PageRange) : Type 0 where
  pub pages : IsPageRange held
  pub low : target.first ≤ held.first
  pub same_end : held.end ≡ target.end

-- what a phase has done so far: how far it locked, what it decided, which frame it has
abbrev pub IsReady : Made → Slots → (ℕ → ℕ → Option ℕ) → Phase → Type 0
IsReady made s cached (Lock goal cursor) =
    ((goal_range goal).first ≤ cursor) × (cursor < (goal_range goal).end) × HasTarget goal
IsReady made s cached (Find place target) = IsTarget place target
IsReady made s cached (Back place target held) =
    IsPassed target × IsRest (target_range place target) held
IsReady made s cached (Cut place target range) =
    IsTarget place target × IsChosen made s (To.Place place target) range
IsReady made s cached (Post change shoot) =
    Decides made.file s (To.Change change) (Act (range_of change) shoot)
IsReady made s cached (Acks goal change) =
    HasTarget goal × IsChangeOf goal change × IsChosen made s goal (range_of change)
IsReady made s cached (Unlock held reply) = IsPageRange held
IsReady made s cached (Want touch old) =
    IsUsable made.file (s.info touch.page) touch.access old
    × IsWanted cached (s.info touch.page) touch.access old
IsReady made s cached (Fill touch frame) =
    IsUsable made.file (s.info touch.page) touch.access None
    × IsFillable cached (s.info touch.page) touch.access frame
IsReady made s cached (CopyPost touch frame) = IsCopying made s cached touch
IsReady made s cached (CopyAcks touch frame) = IsCopying made s cached touch
IsReady made s cached (Install touch) =
    (f : ℕ) × IsUsable made.file (s.info touch.page) touch.access (Some f)
IsReady made s cached _ = Unit {0}

-- ---- pages

-- only a valid page is mapped, and its frame and the cores that are recorded on it are the
-- machine's
pub record BelongsTo (made : Made) (page : ℕ) (info : Option PageInfo) : Type 0 where
  pub valid : is_some info ≡ true → IsPage page
  pub frame : (f : ℕ) → frame_of info ≡ Some f → f < made.frames
  pub cores : (c : ℕ) → is_recorded info c ≡ true → c < made.cores

-- ---- memory

-- frames that are free, or cache a file's page, are the machine's, and Refcache counts its frames
-- for its cores
pub record IsMemory (made : Made) (m : Memory) : Type 0 where
  pub free : (f : ℕ) → m.is_free f ≡ true → f < made.frames
  pub cached : (n k f : ℕ) → m.cached n k ≡ Some f → f < made.frames
  pub reached : AreReached m.counts
  pub cores : m.counts.cores ≡ made.cores
  pub objects : m.counts.objects ≡ made.frames

-- ---- calls without a reply

-- how many of the cores below n have a call without an entry in the log
unfoldable pub open_calls : (ℕ → Phase) → ℕ → ℕ
open_calls phase zero = 0
open_calls phase (suc n) = (if is_open (phase n) then 1 else 0) + open_calls phase n

-- how many entries are replies; the others make room of their own
abbrev pub answer_count : List Entry → ℕ
answer_count [] = 0
answer_count (Answer step call core reply ∷ es) = suc (answer_count es)
answer_count (Detach step call page ∷ es) = answer_count es

-- ---- the order

-- of these parts of a state
pub record Order (made : Made) (s : Slots) (m : Memory) (phase : ℕ → Phase) (number : ℕ → ℕ)
    (requests : List Request) (log : List Entry)
    : Type 0 where
  pub asked : (c : ℕ) → IsAsked made requests c (number c) (phase c)
  -- a call owns the pages that it holds, and no others
  pub owned : (c p : ℕ) → holds (phase c) p ≡ true → s.owner p ≡ Some c
  pub only : (c p : ℕ) → s.owner p ≡ Some c → holds (phase c) p ≡ true
  pub cut : (c : ℕ) → IsCutFor s.edge (range_held (phase c))
  -- nor an edge of what is about to change
  pub cut_out : (c : ℕ) → IsCutFor s.edge (awaits_in (phase c))
  pub ready : (c : ℕ) → IsReady made s m.cached (phase c)
  pub pages : (p : ℕ) → BelongsTo made p (s.info p)
  -- frames that calls have taken are the machine's
  pub taken : (c f : ℕ) → taken_in (phase c) ≡ Some f → f < made.frames
  pub memory : IsMemory made m
  -- only the machine's cores have calls
  pub outside : (c : ℕ) → made.cores ≤ c → phase c ≡ Free
  -- a set of cores tells so many apart, and each has a window of valid pages alone
  pub few : made.cores ≤ 64
  -- each call without a reply finds room in the log, which is made with room for one reply of each
  -- call
  pub room : answer_count log + open_calls phase made.cores ≤ length requests
  pub limit : length requests ≤ made.calls

-- the whole state has its order
abbrev pub IsOrderly : World → Type 0
IsOrderly w = Order w.made w.slots w.memory w.calls.phase w.calls.number w.calls.requests w.calls.log

abbrev pub AllStepsKeepOrder : Type 0
AllStepsKeepOrder = (w v : World) (e : Event) (o : Outcome) → IsOrderly w → Step w e o v → IsOrderly v

abbrev pub AllOpeningsAreOrderly : Type 0
AllOpeningsAreOrderly =
    (made : Made) (slots : Slots) → made.cores ≤ 64 → IsNew slots → IsOrderly (new_world made slots)
