-- A call that has begun, as the log has it
use Rattle.std.specs.Prelude.{Bool, true, false, ◌≡◌, ◌≢◌, ◌⊎◌, ℕ, suc, ◌<◌, ◌≤◌, List, [], ◌∷◌, ◌++◌, length, Option, None, Some}
use Rattle.vm_base.specs.Cores.{members}
use Rattle.vm_base.specs.Plain.{Plain}
use Rattle.vm_base.specs.declared.requests.Request.{Request}
use Rattle.vm_base.specs.declared.replies.Reply.{Reply}
use Rattle.machine_model.specs.declared.phase.Phase.{Phase}
use Rattle.machine_model.specs.declared.phase.Phase.TheVariants.{Free, Unlock, Answer}
use Rattle.machine_model.specs.declared.event.Event.TheVariants.{Go}
use Rattle.machine_model.specs.declared.event.Outcome.TheVariants.{Answered}
use Rattle.core_steps.specs.declared.machine.Finished.{Finished}
use Rattle.core_steps.specs.declared.machine.Finished.TheVariants.{Last}
use Rattle.machine_model.specs.World.{World}
use Rattle.machine_model.specs.Sound.{IsReached}
use Rattle.machine_model.specs.Alone.{IsWaiting, left_to}
use Rattle.core_steps.specs.Moving.{MayWant}
use Rattle.shared.specs.declared.whole.CallEnd.{CallEnd}
use Rattle.shared.specs.declared.whole.CallEnd.TheVariants as To
use Rattle.shared.specs.Histories.{Adds, Ends, IsOver, history_of, logged}

-- the reply that a call in this phase has in the log
abbrev pub reply_in : Phase → Option Reply
reply_in (Unlock held reply) = Some reply
reply_in (Answer reply) = Some reply
reply_in _ = None

-- in x the call of the core, begun in w, isn't ended, and no other core has one
pub record InCall (w : World) (core : ℕ) (request : Request) (x : World) : Type 0 where
  pub reached : ∥ IsReached x ∥₁
  pub made : x.made ≡ w.made
  pub requests : x.calls.requests ≡ w.calls.requests ++ request ∷ []
  pub number : x.calls.number core ≡ suc (length w.calls.requests)
  pub runs : x.calls.phase core ≢ Free
  pub others : (d : ℕ) → d ≢ core → x.calls.phase d ≡ Free
  pub adds : Adds core (logged request (reply_in (x.calls.phase core))) (history_of w) (history_of x)

-- in x the core's call waits for just those that still have a take before them, which are the
-- machine's, and no other core has a call
abbrev pub Rests : ℕ → Request → World → Type 0
Rests core request x =
    ∥ ((t : Plain) × IsWaiting x t core request
    × ((d : ℕ) → 0 < left_to x d → d < x.made.cores)) ∥₁

-- the call, begun in w, rests in x, or can't go on for the limit of events
abbrev pub Halts : World → ℕ → Request → World → Type 0
Halts w core request x = InCall w core request x × (Rests core request x ⊎ IsOver x)

-- it rests, and has nobody to wait for any more
abbrev pub IsLetGo : World → ℕ → Request → World → Type 0
IsLetGo w core request x = InCall w core request x
    × ((Rests core request x × ((d : ℕ) → left_to x d ≡ 0)) ⊎ IsOver x)

-- its next step may be refused for want of memory
abbrev pub Wants : World → ℕ → Request → World → Type 0
Wants w core request x =
    InCall w core request x × ((keeps : Bool) × MayWant keeps x (Go core))

-- a call that was begun in w came to this, or none could begin
abbrev pub ComesTo : Finished → World → ℕ → Request → World → Type 0
ComesTo (Last (Answered reply)) w core request v = Ends w core request (To.Reply reply) v
ComesTo _ w core request v = Halts w core request v ⊎ Ends w core request To.Refused v

-- what is done from x on, where the call stands so, ends it
abbrev pub EndsFrom : (World → ℕ → Request → World → Type 0) → World → ℕ → CallEnd → World → Type 0
EndsFrom Stands x core ended v = (w : World) (request : Request) → x.made ≡ w.made
    → Stands w core request x → Ends w core request ended v × (v.made ≡ w.made)

-- what finishing a call came to
abbrev pub ended_by : Finished → CallEnd
ended_by (Last (Answered reply)) = To.Reply reply
ended_by _ = To.Spent

abbrev pub is_answered : Finished → Bool
is_answered (Last (Answered reply)) = true
is_answered _ = false

abbrev pub IsAnswered : Finished → Type 0
IsAnswered finished = is_answered finished ≡ true

-- what is done, where the call halts in x, leaves it so that it halts, or is let go
abbrev pub LeavesHalted : (World → ℕ → Request → World → Type 0) → World → ℕ → World → Type 0
LeavesHalted Stands x core v =
    (w : World) (request : Request) → Halts w core request x → Stands w core request v

-- The core, if it is awaited, has no take before it any more, and no other has more than before. At the
-- limit of events nothing happens.
abbrev pub TakesPast : ℕ → ℕ → World → ℕ → World → Type 0
TakesPast awaited other x core v = (w : World) (request : Request) → InCall w core request x
    → InCall w core request v × (IsOver x → IsOver v)
    × (Rests core request x → (Rests core request v × ((d : ℕ) → 0 < left_to v d
    → (0 < left_to x d) × (members awaited other ≡ true → d ≢ other))) ⊎ IsOver v)

-- it halts, where only awaited cores from n on have a take before them
abbrev pub HaltsTo : ℕ → ℕ → World → ℕ → Request → World → Type 0
HaltsTo awaited n w core request v = InCall w core request v
    × ((Rests core request v × ((d : ℕ) → 0 < left_to v d → (members awaited d ≡ true) × (n ≤ d)))
    ⊎ IsOver v)

-- the cores below n have no call
abbrev pub CalmBelow : World → ℕ → Type 0
CalmBelow w n = (c : ℕ) → c < n → w.calls.phase c ≡ Free
