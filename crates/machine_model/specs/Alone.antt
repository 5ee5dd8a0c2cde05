-- A call beside which no other call runs
use Rattle.std.specs.Prelude.{◌≡◌, ◌≢◌, ℕ, ◌+◌, ◌<◌, ◌≤◌, ◌^◌, ◌⊎◌, ◌↔◌, if◌then◌else◌, nat_lt, pred}
use Rattle.std.specs.Prelude.{true, false, List, [], ◌∷◌, ◌++◌, Option, None, Some}
use Rattle.vm_base.specs.declared.page.PageRange.{PageRange}
use Rattle.vm_base.specs.declared.replies.Reply.{Reply}
use Rattle.vm_base.specs.declared.replies.Reply.TheVariants.{NoFrame}
use Rattle.vm_base.specs.declared.requests.Request.{Request}
use Rattle.vm_base.specs.Cores.{members}
use Rattle.vm_base.specs.Functions.{put}
use Rattle.slot_lock.specs.Slots.{IsUser}
use Rattle.mmu.specs.declared.message.Message.{Message}
use Rattle.vm_base.specs.Log.{nth, RepliesBy}
use Rattle.machine_model.specs.Holding.{awaits_in, can_give_up}
use Rattle.vm_base.specs.Copies.{page_copied}
use Rattle.vm_base.specs.Requests.{is_placed, is_access}
use Rattle.machine_model.specs.Taken.{frames_for, frames_taken}
use Rattle.machine_model.specs.Users.{recorded}
use Rattle.vm_base.specs.Users.{Users, Same, users_after, with_user, without}
use Rattle.vm_base.specs.Plain.{Plain}
use Rattle.machine_model.specs.declared.event.Blocker.TheVariants as WaitsFor
use Rattle.machine_model.specs.declared.event.Event.{Event}
use Rattle.machine_model.specs.declared.event.Event.TheVariants.{Call, Go, Frame, Guess, Whole, Take}
use Rattle.machine_model.specs.declared.event.Event.TheVariants.{GiveUp}
use Rattle.machine_model.specs.declared.event.Outcome.{Outcome}
use Rattle.machine_model.specs.declared.event.Outcome.TheVariants.{Stepped, Idle, Wait, Answered}
use Rattle.vm_base.specs.declared.log.Entry.{Entry}
use Rattle.vm_base.specs.declared.log.Entry.TheVariants.{Answer, Detach}
use Rattle.machine_model.specs.declared.phase.Phase.TheVariants.{Free}
use Rattle.machine_model.specs.World.{World}
use Rattle.machine_model.specs.Step.{Step, StepsTo, with_event, event_limit}
use Rattle.machine_model.specs.Log.{LeadsTo}
use Rattle.machine_model.specs.Sound.{IsDue, IsReached}
use Rattle.vm_base.specs.Places.{IsPlace, IsFirstPlace}

-- no core has a call
abbrev pub IsCalm : World → Type 0
IsCalm w = (c : ℕ) → w.calls.phase c ≡ Free

-- how many takes core d's inbox still needs to be empty, where it has one message at the most
abbrev pub takes_left : List Message → ℕ
takes_left [] = 0
takes_left (m ∷ ms) = if m.is_cleared then 1 else 2

-- ---- the entries of a call

-- the log, with the entry that this page, if there is one, got a copy for the call with this number
abbrev pub IsCopied : List Entry → Option ℕ → ℕ → List Entry → Type 0
IsCopied first None call log = log ≡ first
IsCopied first (Some page) call log = (step : ℕ) × (log ≡ first ++ Detach step call page ∷ [])

-- and then with its reply
abbrev pub IsNoted : List Entry → Option ℕ → ℕ → ℕ → Reply → List Entry → Type 0
IsNoted first copy call core reply log =
    (before : List Entry) × IsCopied first copy call before
    × ((step : ℕ) × (log ≡ before ++ Answer step call core reply ∷ []))

-- ---- what a call comes to

-- The call of core, whose log leads to t, serves its request and waits until other cores have
-- dropped these pages: those of a change, or the one that is to get a copy. No other core has a
-- call.
pub record IsWaiting (w : World) (t : Plain) (core : ℕ) (request : Request) : Type 0 where
  pub range : PageRange
  pub at_wait : awaits_in (w.calls.phase core) ≡ Some range
  pub others : (d : ℕ) → d ≢ core → w.calls.phase d ≡ Free
  pub inside : nat_lt core w.made.cores ≡ true
  pub reached : IsReached w
  pub leads : LeadsTo w t
  pub number : nth w.calls.requests (w.calls.number core) ≡ Some request

-- A call of w comes to this outcome and leaves v: its reply, and the plain page map to which the
-- log then leads, are what the map t gives for its request, once the page of a store has got the
-- copy that it needs; the copy and the reply are the log's new entries. The users of each page are
-- those that the reply leaves. An access takes one frame at the most, and no other request one. "No
-- frame" is the reply only if none was free in w, and "no memory" never.
pub record IsServed (w : World) (t : Plain) (core : ℕ) (request : Request) (outcome : Outcome)
    (v : World) : Type 0 where
  pub reply : Reply
  pub answered : outcome ≡ Answered reply
  pub calm : IsCalm v
  pub reached : IsReached v
  pub after : Plain
  pub leads : LeadsTo v after
  pub stands : RepliesBy IsPlace t core request reply after
  pub noted : IsNoted w.calls.log (page_copied t request reply) (v.calls.number core) core reply
      v.calls.log
  pub due : (step call : ℕ) → IsDue (Go core) w.memory.is_free (Answer step call core reply)
  pub users : Same (recorded v.slots) (users_after t core request reply (recorded w.slots))
  pub frames : frames_taken v ≤ frames_taken w + frames_for request

-- the reply drops no user of a page but the core itself
abbrev pub KeepsOthers : Plain → Users → ℕ → Request → Reply → Type 0
KeepsOthers t users core request reply =
    (d p : ℕ) → d ≢ core → users p d ≡ true → users_after t core request reply users p d ≡ true

-- the pages of the range have no users, but a store's core
abbrev pub users_dropped : ℕ → Request → PageRange → Users → Users
users_dropped core request range users =
    if is_access request then with_user range.first core (without range users)
    else without range users

-- A call, begun in w, waits in x for the other cores that are recorded on its pages, for just
-- these, and nothing changes but that a store has taken the frame of its copy. Each of them has
-- both takes before it. The map t answers its request with this reply, which leaves these pages
-- without users, but for a store's core. Its request doesn't leave its place open.
pub record IsAwaiting (w x : World) (t : Plain) (core : ℕ) (request : Request) (outcome : Outcome)
    (v : World) : Type 0 where
  pub waiting : IsWaiting x t core request
  pub set : ℕ
  pub waits : outcome ≡ Wait (WaitsFor.Acks set)
  pub some : (d : ℕ) × (members set d ≡ true)
  pub exact : (d : ℕ) → (members set d ≡ true) ↔ ((d ≢ core) × IsUser x.slots waiting.range d)
  pub takes : (d : ℕ) → takes_left (x.hardware.inbox d) ≡ (if members set d then 2 else 0)
  -- they are the machine's
  pub there : (d : ℕ) → IsUser x.slots waiting.range d → nat_lt d w.made.cores ≡ true
  pub stays : v ≡ with_event x
  pub users : Same (recorded x.slots) (recorded w.slots)
  pub frames : frames_taken x ≡ frames_taken w + frames_for request
  pub reply : Reply
  pub after : Plain
  pub stands : RepliesBy IsPlace t core request reply after
  pub first : RepliesBy IsFirstPlace t core request reply after
  pub named : is_placed request ≡ false
  pub drops : (u : Users)
      → Same (users_after t core request reply u) (users_dropped core request waiting.range u)

-- Begun in w, whose log leads to t, the call takes few plain steps. The first that isn't plain,
-- before the limit of events, hands out its reply, which drops no other user and is the first of
-- the map's answers, or waits for other cores' acknowledgements.
pub record IsServedAlone (w : World) (t : Plain) (core : ℕ) (request : Request)
    (begun : World) : Type 0 where
  pub short : (n : ℕ) (x : World) → StepsTo begun core n x → n < 2 ^ 40
  pub ends : (n : ℕ) (x v : World) (outcome : Outcome) → StepsTo begun core n x
      → Step x (Go core) outcome v → outcome ≢ Stepped → x.calls.events < event_limit
      → ((k : IsServed w t core request outcome v)
      × KeepsOthers t (recorded w.slots) core request k.reply
      × RepliesBy IsFirstPlace t core request k.reply k.after)
      ⊎ IsAwaiting w x t core request outcome v

-- in each state that a machine reaches, with up to 64 cores
abbrev pub AllLoneCallsAreAnswered : Type 0
AllLoneCallsAreAnswered =
    (w begun : World) (t : Plain) (core : ℕ) (request : Request) → IsReached w → LeadsTo w t
    → IsCalm w → Step w (Call core request) Stepped begun → IsServedAlone w t core request begun

-- ---- a call that waits

-- it goes on to wait for the cores that still have a take before them, for just these
pub record IsAwaitingStill (w : World) (outcome : Outcome) (v : World) : Type 0 where
  pub set : ℕ
  pub waits : outcome ≡ Wait (WaitsFor.Acks set)
  pub some : (d : ℕ) × (members set d ≡ true)
  pub exact : (d : ℕ) → (members set d ≡ true) ↔ (0 < takes_left (w.hardware.inbox d))
  pub stays : v ≡ with_event w

-- it is answered: nobody is awaited any more, no frame more is taken, and the reply isn't "no
-- frame"; a request that doesn't leave its place open has one answer
pub record IsAnsweredAtLast (w : World) (t : Plain) (core : ℕ) (request : Request)
    (outcome : Outcome) (v : World) : Type 0 where
  pub served : IsServed w t core request outcome v
  pub first : is_placed request ≡ false → RepliesBy IsFirstPlace t core request served.reply served.after
  pub framed : served.reply ≢ NoFrame
  pub frames : frames_taken v ≤ frames_taken w
  pub nobody : (d : ℕ) → takes_left (w.hardware.inbox d) ≡ 0

-- The same of a call that waits in w: once nobody is awaited, it is answered.
pub record IsServedAtLast (w : World) (t : Plain) (core : ℕ) (request : Request) : Type 0 where
  pub short : (n : ℕ) (x : World) → StepsTo w core n x → n < 2 ^ 40
  pub ends : (n : ℕ) (x v : World) (outcome : Outcome) → StepsTo w core n x
      → Step x (Go core) outcome v → outcome ≢ Stepped → x.calls.events < event_limit
      → IsAnsweredAtLast w t core request outcome v ⊎ IsAwaitingStill w outcome v

abbrev pub AllWaitingCallsAreAnswered : Type 0
AllWaitingCallsAreAnswered =
    (w : World) (t : Plain) (core : ℕ) (request : Request) → IsWaiting w t core request
    → IsServedAtLast w t core request

-- ---- what happens beside a call that waits, or where no core has a call

-- the call of this core, if it has one, waits for acknowledgements, and no other core has a call
pub record IsResting (w : World) (core : ℕ) : Type 0 where
  pub reached : IsReached w
  pub others : (d : ℕ) → d ≢ core → w.calls.phase d ≡ Free
  pub own : (w.calls.phase core ≡ Free)
      ⊎ ((range : PageRange) × (awaits_in (w.calls.phase core) ≡ Some range))

-- how many takes each core still has before it
abbrev pub left_to : World → ℕ → ℕ
left_to w d = takes_left (w.hardware.inbox d)

-- The event begins no call, is no step of a call that a core has, and gives no store up that awaits
-- nobody any more.
abbrev pub IsBeside : World → Event → Type 0
IsBeside w (Call c request) = ⊥
IsBeside w (Go c) = w.calls.phase c ≡ Free
IsBeside w (GiveUp c) = (can_give_up (w.calls.phase c) ≡ false) ⊎ ((d : ℕ) × (0 < left_to w d))
IsBeside w e = Unit {0}

-- only events are counted of the calls, each page has the users that it had, and no frame is taken
pub record IsBesideCalls (w v : World) : Type 0 where
  pub made : v.made ≡ w.made
  pub phases : v.calls.phase ≡ w.calls.phase
  pub numbers : v.calls.number ≡ w.calls.number
  pub requests : v.calls.requests ≡ w.calls.requests
  pub log : v.calls.log ≡ w.calls.log
  pub users : Same (recorded v.slots) (recorded w.slots)
  pub frames : frames_taken v ≤ frames_taken w

-- no core has another number of takes before it
abbrev pub KeepsTakes : World → World → Type 0
KeepsTakes w v = (d : ℕ) → left_to v d ≡ left_to w d

-- A core that is awaited, and no other, takes; no frame is asked for, no place looked for, and no
-- call can be given up.
abbrev pub ComesBeside : World → Event → Outcome → World → Type 0
ComesBeside w (Call c request) o v = ⊥
ComesBeside w (Go c) o v = (o ≡ Idle) × KeepsTakes w v
ComesBeside w (Frame c f) o v = (o ≡ Idle) × KeepsTakes w v
ComesBeside w (Guess c page) o v = (o ≡ Idle) × KeepsTakes w v
ComesBeside w (Whole c) o v = (o ≡ Idle) × KeepsTakes w v
ComesBeside w (GiveUp c) o v = (o ≡ Idle) × KeepsTakes w v
ComesBeside w (Take c) o v =
    ((o ≡ Stepped) × (0 < left_to w c)
    × ((d : ℕ) → left_to v d ≡ put (left_to w) c (pred (left_to w c)) d))
    ⊎ ((o ≡ Idle) × ((left_to w c ≡ 0) ⊎ (nat_lt c w.made.cores ≡ false)) × KeepsTakes w v)
ComesBeside w e o v = ((o ≡ Stepped) ⊎ (o ≡ Idle)) × KeepsTakes w v

abbrev pub AllStepsBesideRest : Type 0
AllStepsBesideRest =
    (w v : World) (core : ℕ) (event : Event) (outcome : Outcome) → IsResting w core
    → IsBeside w event → w.calls.events < event_limit → Step w event outcome v
    → IsBesideCalls w v × ComesBeside w event outcome v
