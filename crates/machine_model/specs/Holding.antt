-- What a call is at, by its phase: its plan, the pages that it locks, those that it holds, and the
-- frame that it has taken
use Rattle.std.specs.Prelude.{ℕ, ◌==◌, Bool, true, false, if◌then◌else◌, Option, None, Some}
use Rattle.vm_base.specs.declared.page.PageRange.{PageRange}
use Rattle.vm_base.specs.Functions.{has}
use Rattle.vm_base.specs.Pages.{pages_from}
use Rattle.slot_lock.specs.declared.plan.Plan.{Plan}
use Rattle.slot_lock.specs.declared.plan.Plan.TheVariants as PlanOf
use Rattle.slot_lock.specs.declared.plan.Touch.{Touch}
use Rattle.slot_lock.specs.Plan.{range_of, target_range, goal_range, goal_plan}
use Rattle.slot_lock.specs.Slots.{between}
use Rattle.machine_model.specs.declared.phase.Phase.{Phase}
use Rattle.machine_model.specs.declared.phase.Phase.TheVariants.{Free, Check, Lock, Guess, Find, Back}
use Rattle.machine_model.specs.declared.phase.Phase.TheVariants.{Cut, Decide, Post, Acks, Unlock}
use Rattle.machine_model.specs.declared.phase.Phase.TheVariants.{Answer, Try, Settle, Want, Fill}
use Rattle.machine_model.specs.declared.phase.Phase.TheVariants.{CopyPost, CopyAcks, Install, Release}

-- the page of an access
abbrev pub page_of_touch : Touch → PageRange
page_of_touch touch = pages_from touch.page 1

-- what the call does, from the check of its arguments on until it has a reply
abbrev pub plan_in : Phase → Option Plan
plan_in Free = None
plan_in (Check request) = None
plan_in (Lock goal cursor) = Some (goal_plan goal)
plan_in (Guess place) = Some (PlanOf.Place place)
plan_in (Find place target) = Some (PlanOf.Place place)
plan_in (Back place target held) = Some (PlanOf.Place place)
plan_in (Cut place target range) = Some (PlanOf.Place place)
plan_in (Decide change) = Some (PlanOf.Change change)
plan_in (Post change shoot) = Some (PlanOf.Change change)
plan_in (Acks goal change) = Some (goal_plan goal)
plan_in (Unlock held reply) = None
plan_in (Answer reply) = None
plan_in (Try touch) = Some (PlanOf.Touch touch)
plan_in (Settle touch) = Some (PlanOf.Touch touch)
plan_in (Want touch old) = Some (PlanOf.Touch touch)
plan_in (Fill touch frame) = Some (PlanOf.Touch touch)
plan_in (CopyPost touch frame) = Some (PlanOf.Touch touch)
plan_in (CopyAcks touch frame) = Some (PlanOf.Touch touch)
plan_in (Install touch) = Some (PlanOf.Touch touch)
plan_in (Release touch) = Some (PlanOf.Touch touch)

-- the pages that the call holds
abbrev pub range_held : Phase → Option PageRange
range_held Free = None
range_held (Check request) = None
range_held (Lock goal cursor) = Some (between (goal_range goal).first cursor)
range_held (Guess place) = None
range_held (Find place target) = Some (target_range place target)
range_held (Back place target held) = Some held
range_held (Cut place target range) = Some (target_range place target)
range_held (Decide change) = Some (range_of change)
range_held (Post change shoot) = Some (range_of change)
range_held (Acks goal change) = Some (goal_range goal)
range_held (Unlock held reply) = Some held
range_held (Answer reply) = None
range_held (Try touch) = None
range_held (Settle touch) = Some (page_of_touch touch)
range_held (Want touch old) = Some (page_of_touch touch)
range_held (Fill touch frame) = Some (page_of_touch touch)
range_held (CopyPost touch frame) = Some (page_of_touch touch)
range_held (CopyAcks touch frame) = Some (page_of_touch touch)
range_held (Install touch) = Some (page_of_touch touch)
range_held (Release touch) = Some (page_of_touch touch)

-- the pages that the call has locked or is to lock (its footprint): of a placed mapping its target
abbrev pub range_in : Phase → Option PageRange
range_in (Lock goal cursor) = Some (goal_range goal)
range_in (Back place target held) = Some (target_range place target)
range_in phase = range_held phase

abbrev pub some_has : Option PageRange → ℕ → Bool
some_has None p = false
some_has (Some r) p = has r p

-- the call holds the page
abbrev pub holds : Phase → ℕ → Bool
holds phase p = some_has (range_held phase) p

-- the pages whose translations other cores were asked to drop, and which change once they have
abbrev pub awaits_in : Phase → Option PageRange
awaits_in (Acks goal change) = Some (range_of change)
awaits_in (CopyAcks touch frame) = Some (page_of_touch touch)
awaits_in _ = None

-- a range with some page
abbrev pub if_some_page : Option PageRange → Option PageRange
if_some_page None = None
if_some_page (Some r) = if r.first == r.end then None else Some r

-- what the call would have to unlock, if it went no further
abbrev pub still_held : Phase → Option PageRange
still_held phase = if_some_page (range_held phase)

-- the frame that a call has taken and that no page has yet
abbrev pub taken_in : Phase → Option ℕ
taken_in (Fill touch frame) = frame
taken_in (CopyPost touch frame) = Some frame
taken_in (CopyAcks touch frame) = Some frame
taken_in _ = None

-- the call has no reply in the log yet
abbrev pub is_open : Phase → Bool
is_open Free = false
is_open (Unlock held reply) = false
is_open (Answer reply) = false
is_open _ = true

-- the call may still be given up, where it awaits no other core: it has no reply, and hasn't asked
-- others to drop what a change takes
abbrev pub can_give_up : Phase → Bool
can_give_up (Acks goal change) = false
can_give_up phase = is_open phase
