-- What stands in the log of a machine of the calls of one core
use Rattle.std.specs.Prelude.{◌≡◌, ◌≢◌, ◌⊎◌, ◌≤◌, ℕ, ◌==◌, cond, List, [], ◌∷◌, ◌++◌, length, take, Option, None, Some}
use Rattle.vm_base.specs.declared.requests.Request.{Request}
use Rattle.vm_base.specs.declared.replies.Reply.{Reply}
use Rattle.vm_base.specs.declared.log.Entry.{Entry}
use Rattle.vm_base.specs.declared.log.Entry.TheVariants.{Answer, Detach}
use Rattle.vm_base.specs.Log.{nth}
use Rattle.machine_model.specs.declared.event.Event.{Event}
use Rattle.machine_model.specs.declared.event.Event.TheVariants as EventOf
use Rattle.machine_model.specs.declared.event.Outcome.{Outcome}
use Rattle.machine_model.specs.Step.{Step, event_limit}
use Rattle.machine_model.specs.World.{World}
use Rattle.machine_model.specs.Alone.{IsCalm}
use Rattle.shared.specs.declared.asides.Aside.{Aside}
use Rattle.shared.specs.declared.asides.Aside.TheVariants as Does
use Rattle.shared.specs.declared.history.SeenLog.{SeenLog}
use Rattle.shared.specs.declared.history.Replied.{Replied}
use Rattle.shared.specs.declared.whole.CallEnd.{CallEnd}
use Rattle.shared.specs.declared.whole.CallEnd.TheVariants as To

abbrev pub history_of : World → SeenLog
history_of w = record { requests = w.calls.requests; entries = w.calls.log }

abbrev pub replied : Request → Reply → Replied
replied request reply = record { request = request; reply = reply }

-- the call with its reply, if its request is known, before these
abbrev pub with_reply : Option Request → Reply → List Replied → List Replied
with_reply None reply rest = rest
with_reply (Some request) reply rest = replied request reply ∷ rest

-- the core's calls that the entries answer, each with its reply, in their order
abbrev pub replied_in : ℕ → List Request → List Entry → List Replied
replied_in core requests [] = []
replied_in core requests (Answer step call by reply ∷ es) =
    cond (by == core) (with_reply (nth requests call) reply (replied_in core requests es))
    (replied_in core requests es)
replied_in core requests (Detach step call page ∷ es) = replied_in core requests es

abbrev pub replied_by : ℕ → SeenLog → List Replied
replied_by core h = replied_in core h.requests h.entries

-- h is how k began
abbrev pub Begins : SeenLog → SeenLog → Type 0
Begins h k = (take (length h.requests) k.requests ≡ h.requests)
    × (take (length h.entries) k.entries ≡ h.entries)

-- h went on to k, and of all cores only this one was replied to: to these calls
pub record Adds (core : ℕ) (added : List Replied) (h k : SeenLog) : Type 0 where
  pub begins : Begins h k
  pub own : replied_by core k ≡ replied_by core h ++ added
  pub others : (d : ℕ) → d ≢ core → replied_by d k ≡ replied_by d h

-- so many events were taken that no more can be
abbrev pub IsOver : World → Type 0
IsOver w = event_limit ≤ w.calls.events

-- no call can begin any more: a limit of the machine is reached, that of calls or that of events
abbrev pub IsFull : World → Type 0
IsFull w = (w.made.calls ≤ length w.calls.requests) ⊎ IsOver w

-- the call with its reply, where it has one
abbrev pub logged : Request → Option Reply → List Replied
logged request None = []
logged request (Some reply) = replied request reply ∷ []

-- A whole call was replied, which left no call in flight. Or none could begin, and nothing was done;
-- or it couldn't be ended, though it may have its reply in the log: only where a limit is reached.
abbrev pub Ends : World → ℕ → Request → CallEnd → World → Type 0
Ends w core request (To.Reply reply) v =
    IsCalm v × Adds core (replied request reply ∷ []) (history_of w) (history_of v)
Ends w core request To.Refused v =
    IsCalm v × Adds core [] (history_of w) (history_of v) × IsFull v
Ends w core request To.Spent v =
    ((reply : Option Reply) × Adds core (logged request reply) (history_of w) (history_of v)) × IsOver v

-- the event that an aside of this core is
abbrev pub event_of : ℕ → Aside → Event
event_of core (Does.Walk page) = EventOf.Walk core page
event_of core (Does.Evict page) = EventOf.Evict core page
event_of core Does.Flush = EventOf.Flush core
event_of core Does.Review = EventOf.Review core
event_of core (Does.Fold page) = EventOf.Fold page

-- the machine's own step of the event, which adds nothing to the history
abbrev pub StepsAside : World → Event → Outcome → World → Type 0
StepsAside w event outcome v = Step w event outcome v × (history_of v ≡ history_of w)
