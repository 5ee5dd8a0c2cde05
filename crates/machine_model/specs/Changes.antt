-- The check of a request's arguments, and the steps of a fixed mmap, of munmap and mprotect; those
-- of a placed mmap from its commit on
use Rattle.std.specs.Prelude.{◌≡◌, ℕ, ◌-◌, ◌⊎◌, true, false, None, Some, Result, Ok, Err}
use Rattle.vm_base.specs.declared.page.PageRange.{PageRange}
use Rattle.vm_base.specs.declared.requests.Request.{Request}
use Rattle.vm_base.specs.declared.replies.Reply.{Reply}
use Rattle.vm_base.specs.declared.replies.Reply.TheVariants.{Refused}
use Rattle.vm_base.specs.Cores.{members}
use Rattle.vm_base.specs.Plain.{mode_of}
use Rattle.slot_lock.specs.declared.plan.Change.{Change}
use Rattle.slot_lock.specs.declared.plan.Plan.{Plan}
use Rattle.slot_lock.specs.declared.plan.Plan.TheVariants as PlanOf
use Rattle.slot_lock.specs.declared.plan.Goal.TheVariants as To
use Rattle.slot_lock.specs.Plan.{range_of}
use Rattle.slot_lock.specs.Changes.{changed}
use Rattle.slot_lock.specs.Slots.{Slots}
use Rattle.vm_calls.specs.declared.decision.Decision.{Decision}
use Rattle.vm_calls.specs.declared.decision.Decision.TheVariants.{Refuse, Act, Again}
use Rattle.vm_calls.specs.Checks.{checked}
use Rattle.vm_calls.specs.Decisions.{Decides}
use Rattle.vm_calls.specs.Plainly.{answer_to}
use Rattle.mmu.specs.Inboxes.{awaited}
use Rattle.refcache.specs.Counts.{Counts}
use Rattle.machine_model.specs.declared.event.Blocker.TheVariants as WaitsFor
use Rattle.machine_model.specs.declared.event.Outcome.{Outcome}
use Rattle.machine_model.specs.declared.event.Outcome.TheVariants.{Wait}
use Rattle.machine_model.specs.declared.phase.Phase.TheVariants.{Post, Acks, Try}
use Rattle.machine_model.specs.World.{World, Made, Hardware}
use Rattle.machine_model.specs.Actions.{Becomes, to, after_reply}
use Rattle.machine_model.specs.Counting.{CountsDown, frame_lost, with_counts}
use Rattle.machine_model.specs.Locks.{locking}
use Rattle.machine_model.specs.Placing.{placing}
use Rattle.machine_model.specs.Translating.{after_shot, with_hardware}

-- ---- Check

-- what the arguments of core c's request decide
abbrev pub checked_by : Made → ℕ → Request → Result Plan Reply
checked_by made c request = checked (λ n. mode_of (made.file n)) c request

-- A request that its arguments don't refuse goes on.
abbrev pub after_plan : ℕ → Result Plan Reply → World → World
after_plan c (Err reply) w = after_reply c None reply w
after_plan c (Ok (PlanOf.Place place)) w = to c (placing place place.hint) w
after_plan c (Ok (PlanOf.Change change)) w = to c (locking (To.Change change)) w
after_plan c (Ok (PlanOf.Touch touch)) w = to c (Try touch) w

-- the arguments are checked, and the call goes on as they say
abbrev pub after_check : ℕ → Request → World → World
after_check c request w = after_plan c (checked_by w.made c request) w

-- ---- Decide

-- (a change whose range is given never looks elsewhere)
abbrev pub after_decision : ℕ → Change → Decision → World → World
after_decision c change (Refuse e) w = after_reply c (Some (range_of change)) (Refused e) w
after_decision c change (Act range shoot) w = to c (Post change shoot) w
after_decision c change Again w = w

-- with its pages locked a change is decided
abbrev pub DecidesNext : World → ℕ → Change → Outcome → World → Type 0
DecidesNext w c change o v =
    (d : Decision) × Decides w.made.file w.slots (To.Change change) d
    × Becomes (after_decision c change d w) o v

-- ---- Post

-- The recorded cores are told to drop their translations of the pages, core c's own being dropped
-- at once.
abbrev pub after_post : ℕ → Change → ℕ → World → World
after_post c change shoot w =
    to c (Acks (To.Change change) change)
    (with_hardware (after_shot w.hardware c shoot (range_of change)) w)

-- ---- Acks

abbrev pub slots_after : Change → Slots → Slots
slots_after change s = changed s change

-- what a change that is made answers
abbrev pub reply_to : Change → Reply
reply_to change = answer_to (To.Change change) (range_of change)

-- the change is made at once, these are the counts from there on, and its reply stands
abbrev pub after_commit : ℕ → Change → PageRange → Counts → World → World
after_commit c change held counts w =
    after_reply c (Some held) (reply_to change)
    (with_counts counts (record w { slots = slots_after change w.slots }))

-- core c has counted down the frames that the change takes from pages, in order of pages
abbrev pub CountsLost : ℕ → Change → World → Counts → Type 0
CountsLost c change w counts =
    CountsDown c (frame_lost change w.slots.info) (range_of change).first
    ((range_of change).end - (range_of change).first)
    w.memory.counts counts

-- no core's inbox has core c's message
abbrev pub AwaitsNobody : Hardware → ℕ → Type 0
AwaitsNobody h c = (d : ℕ) → awaited h.inbox c d ≡ false

-- some core's inbox has core c's message, and the set has just these cores
pub record Awaits (h : Hardware) (c set : ℕ) : Type 0 where
  pub some : (d : ℕ) × (awaited h.inbox c d ≡ true)
  pub exact : members set ≡ awaited h.inbox c

-- The change waits for the cores that were told, and is then made.
abbrev pub CommitsNext : World → ℕ → Change → PageRange → Outcome → World → Type 0
CommitsNext w c change held o v =
    (AwaitsNobody w.hardware c
    × ((counts : Counts) × CountsLost c change w counts
    × Becomes (after_commit c change held counts w) o v))
    ⊎ ((set : ℕ) × Awaits w.hardware c set × (o ≡ Wait (WaitsFor.Acks set)) × (v ≡ w))
