-- What a step of an engine does, and which steps may be refused for memory: those at which a slot
-- is to be divided or cut, those that install the first entry of a table of the last level, and,
-- where the log keeps its entries, those that make a copy of a private page, which the log is to have
use Rattle.std.specs.Prelude.{◌≡◌, ◌≢◌, ℕ, ◌<◌, ◌⊎◌, Bool, true, false, Option, None, Some, IfSome, Result, Ok, Err, is_some}
use Rattle.vm_base.specs.declared.replies.Reply.{Reply}
use Rattle.vm_base.specs.declared.page.PageRange.{PageRange}
use Rattle.vm_base.specs.Info.{frame_of}
use Rattle.vm_base.specs.Pages.{IsPage, IsPageRange}
use Rattle.mmu.specs.Tables.{IsEmptyBeside}
use Rattle.slot_lock.specs.declared.plan.Goal.{Goal}
use Rattle.slot_lock.specs.declared.plan.Goal.TheVariants as To
use Rattle.slot_lock.specs.declared.plan.Touch.{Touch}
use Rattle.slot_lock.specs.declared.plan.Plan.{Plan}
use Rattle.slot_lock.specs.declared.plan.Plan.TheVariants as PlanOf
use Rattle.slot_lock.specs.declared.plan.Change.{Change}
use Rattle.slot_lock.specs.Changes.{IsMappedFor}
use Rattle.slot_lock.specs.Plan.{IsSoundPlan, IsSoundChange, IsSoundGoal, IsSoundTouch, goal_range, range_of}
use Rattle.slot_lock.specs.Slots.{Slots, Crosses, IsCrossed, IsHeld, IsSlotBy, OwnsAll}
use Rattle.refcache.specs.Steps.{IsUnused}
use Rattle.vm_calls.specs.Settling.{is_private_store}
use Rattle.machine_model.specs.declared.event.Event.{Event}
use Rattle.machine_model.specs.declared.event.Event.TheVariants.{Go, Fold}
use Rattle.machine_model.specs.declared.event.Outcome.{Outcome}
use Rattle.machine_model.specs.declared.event.Outcome.TheVariants.{Stepped, Idle, Full}
use Rattle.machine_model.specs.declared.phase.Phase.{Phase}
use Rattle.machine_model.specs.declared.phase.Phase.TheVariants.{Lock, Guess, Find, Back, Cut, Decide, Post, Acks}
use Rattle.machine_model.specs.declared.phase.Phase.TheVariants.{Unlock, Answer, Try, Settle, Want, Fill, CopyPost}
use Rattle.machine_model.specs.declared.phase.Phase.TheVariants.{CopyAcks, Install, Release}
use Rattle.machine_model.specs.Changes.{AwaitsNobody, Awaits}
use Rattle.machine_model.specs.Files.{back_of}
use Rattle.machine_model.specs.Holding.{awaits_in, is_open, taken_in}
use Rattle.machine_model.specs.Locks.{locking}
use Rattle.machine_model.specs.Translating.{frame_reached, translated_by}
use Rattle.machine_model.specs.World.{World, Hardware}
use Rattle.machine_model.specs.Orderly.{answer_count}
use Rattle.machine_model.specs.Invariant.{IsWellFormed}
use Rattle.core_steps.specs.Filling.{IsAloneAt}
use Rattle.core_steps.specs.Taking.{AreCounted}

-- ---- want of memory

-- the slot that the call of core c is to lock next is free and crosses an edge of the pages that
-- the call is to hold, or one that it holds crosses an edge of the pages where its mapping goes, or
-- the core's tables have no entry yet of the page that is to get one, nor of any that shares its
-- table of the last level, or a private page is to get a copy for a store, for which no core is
-- awaited, and the log keeps its entries
abbrev pub WantsMemory : Bool → World → ℕ → Phase → Type 0
WantsMemory keeps w c (Lock goal cursor) =
    (w.slots.owner cursor ≡ None) × Crosses w.slots cursor (goal_range goal).end
WantsMemory keeps w c (Cut place target range) = IsCrossed w.slots range
WantsMemory keeps w c (Fill touch frame) =
    (is_private_store (back_of (w.slots.info touch.page)) touch.access ≡ true) × (keeps ≡ true)
WantsMemory keeps w c (CopyAcks touch frame) = AwaitsNobody w.hardware c × (keeps ≡ true)
WantsMemory keeps w c (Install touch) = IsEmptyBeside (w.hardware.table c) touch.page
WantsMemory keeps w c _ = ⊥

-- only a step of such a call takes memory
abbrev pub MayWant : Bool → World → Event → Type 0
MayWant keeps w (Go c) = WantsMemory keeps w c (w.calls.phase c)
MayWant keeps w _ = ⊥

-- what may be refused did this, or it was refused as it may be, and nothing changed
abbrev pub Tries : {T E : Type 0} → (T → World → Type 0) → Type 0 → World → Result T E → World
    → Type 0
Tries Does MayRefuse w (Ok done) v = Does done v
Tries Does MayRefuse w (Err refused) v = (v ≡ w) × MayRefuse

-- ---- goals

-- what the call has locked pages for, or is to lock them for
abbrev pub goal_in : Phase → Option Goal
goal_in (Lock goal cursor) = Some goal
goal_in (Find place target) = Some (To.Place place target)
goal_in (Cut place target range) = Some (To.Place place target)
goal_in (Decide change) = Some (To.Change change)
goal_in (Post change shoot) = Some (To.Change change)
goal_in (Acks goal change) = Some goal
goal_in (Settle touch) = Some (To.Access touch)
goal_in (Want touch old) = Some (To.Access touch)
goal_in (Fill touch frame) = Some (To.Access touch)
goal_in (CopyPost touch frame) = Some (To.Access touch)
goal_in (CopyAcks touch frame) = Some (To.Access touch)
goal_in (Install touch) = Some (To.Access touch)
goal_in (Release touch) = Some (To.Access touch)
goal_in _ = None

-- ---- copies

-- the call is to make a copy once no other core is awaited
abbrev pub is_copy_due : Phase → Bool
is_copy_due (CopyAcks touch frame) = true
is_copy_due _ = false

-- and whether some is awaited for it
abbrev pub AwaitsCopy : Hardware → ℕ → Phase → Bool → Type 0
AwaitsCopy h c phase true = (is_copy_due phase ≡ true) × ((set : ℕ) × Awaits h c set)
AwaitsCopy h c phase false = is_copy_due phase ≡ true → AwaitsNobody h c

-- ---- joins of slots

-- the slots were joined at the page as the map joins them, or they couldn't be
abbrev pub FoldsExactly : (Slots → ℕ → Type 0) → (Slots → Slots → ℕ → Type 0) → Slots → ℕ → Outcome
    → Slots → Type 0
FoldsExactly CanFold Folds s page o t =
    ((o ≡ Stepped) × IsPage page × CanFold s page × Folds s t page)
    ⊎ ((o ≡ Idle) × (IsPage page × CanFold s page → ⊥) × (t ≡ s))

-- a Fold that is taken joins slots just where the map can, and as the map does
abbrev pub JoinsAsMap : (Slots → ℕ → Type 0) → (Slots → Slots → ℕ → Type 0) → World → Event
    → Outcome → World → Type 0
JoinsAsMap CanFold Folds w (Fold page) o v =
    (o ≡ Full) ⊎ FoldsExactly CanFold Folds w.slots page o v.slots
JoinsAsMap CanFold Folds w _ o v = Unit {0}

-- ---- the core that is to make a step

-- the core is the machine's, and the state is one that runs reach
pub record IsOf (w : World) (core : ℕ) : Type 0 where
  pub here : core < w.made.cores
  pub well : ∥ IsWellFormed w ∥₁

-- what the call is to do, where it neither has locked pages nor is to lock some next
abbrev pub plan_in : Phase → Option Plan
plan_in (Guess place) = Some (PlanOf.Place place)
plan_in (Back place target held) = Some (PlanOf.Place place)
plan_in (Try touch) = Some (PlanOf.Touch touch)
plan_in _ = None

-- the page of an access that the call has locked
abbrev pub page_in : Phase → Option ℕ
page_in (Settle touch) = Some touch.page
page_in (Want touch old) = Some touch.page
page_in (Fill touch frame) = Some touch.page
page_in (CopyPost touch frame) = Some touch.page
page_in (CopyAcks touch frame) = Some touch.page
page_in (Install touch) = Some touch.page
page_in (Release touch) = Some touch.page
page_in _ = None

-- the frame is one that a call has taken
pub record IsTaken (w : World) (f : ℕ) : Type 0 where
  pub here : f < w.made.frames
  pub busy : w.memory.is_free f ≡ false
  pub object : f < w.memory.counts.objects
  pub unused : IsUnused w.memory.counts f

-- the page whose slot is to be locked next
abbrev pub cursor_in : Phase → Option ℕ
cursor_in (Lock goal cursor) = Some cursor
cursor_in _ = None

-- the pages whose first slot is to be unlocked next
abbrev pub left_in : Phase → Option PageRange
left_in (Back place target held) = Some held
left_in (Unlock held reply) = Some held
left_in _ = None

-- it can be
pub record CanUnlock (s : Slots) (core : ℕ) (pages : PageRange) : Type 0 where
  pub held : s.owner pages.first ≡ Some core
  pub slot : IsSlotBy s pages.first pages.end

-- the pages at whose edges slots are to be cut
abbrev pub cut_in : Phase → Option PageRange
cut_in (Cut place target range) = Some range
cut_in _ = None

-- they can be
pub record CanCut (s : Slots) (core : ℕ) (range : PageRange) : Type 0 where
  pub valid : IsPageRange range
  pub held : OwnsAll s core range.first range.end

-- the change that is to be made
abbrev pub change_in : Phase → Option Change
change_in (Acks goal change) = Some change
change_in _ = None

-- it can be
pub record CanChange (s : Slots) (core : ℕ) (change : Change) : Type 0 where
  pub sound : IsSoundChange change
  pub held : IsHeld s core (range_of change)
  pub mapped : IsMappedFor s change

-- the page of an access that has its frame, or the one of which a copy is due
abbrev pub framed_in : Phase → Option ℕ
framed_in (CopyAcks touch frame) = Some touch.page
framed_in (Install touch) = Some touch.page
framed_in _ = None

-- and its call is in this phase. What follows from that is named here once, for all steps.
pub record IsAt (w : World) (core : ℕ) (at : Phase) : Type 0 where
  pub here : core < w.made.cores
  pub phase : w.calls.phase core ≡ at
  pub well : ∥ IsWellFormed w ∥₁
  pub room : is_open at ≡ true → answer_count w.calls.log < w.made.calls
  pub goal : IfSome (goal_in at) IsSoundGoal
  pub plan : IfSome (plan_in at) IsSoundPlan
  pub page : IfSome (page_in at) (IsAloneAt w.slots core)
  pub taken : IfSome (taken_in at) (IsTaken w)
  pub counted : core < w.memory.counts.cores
  pub objects : (f : ℕ) → f < w.made.frames → f < w.memory.counts.objects
  pub idle : awaits_in at ≡ None → AwaitsNobody w.hardware core
  pub ahead : IfSome (cursor_in at) (λ p. w.slots.owner p ≢ Some core)
  pub left : IfSome (left_in at) (CanUnlock w.slots core)
  pub cut : IfSome (cut_in at) (CanCut w.slots core)
  pub change : IfSome (change_in at) (CanChange w.slots core)
  pub framed : IfSome (framed_in at) (λ p. is_some (frame_of (w.slots.info p)) ≡ true)
  pub users : AreCounted w.slots w.memory.counts

-- ---- an access

-- the access can be tried: its page is a valid one, there is room for its reply, and it finds no
-- frame but the machine's
pub record CanTry (w : World) (core : ℕ) (touch : Touch) : Type 0 where
  pub here : core < w.made.cores
  pub sound : IsSoundTouch touch
  pub room : answer_count w.calls.log < w.made.calls
  pub frame : (f : ℕ) → frame_reached (translated_by w.hardware core touch) ≡ Some f
      → f < w.made.frames

-- where the call goes on that has tried its access: it was answered this, or faulted
abbrev pub tried_to : Touch → Option Reply → Phase
tried_to touch (Some reply) = Answer reply
tried_to touch None = locking (To.Access touch)
