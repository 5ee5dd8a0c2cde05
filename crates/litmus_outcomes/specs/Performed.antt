-- Which replies a list of events performs
use Rattle.std.specs.Prelude.{◌≡◌, ◌≢◌, ℕ, ◌==◌, List, [], ◌∷◌, ◌++◌, length, slice_get, if◌then◌else◌, Option, None, Some}
use Rattle.vm_base.specs.declared.replies.Reply.{Reply}
use Rattle.vm_base.specs.declared.replies.Reply.TheVariants.{NoFrame, NoMemory}
use Rattle.vm_base.specs.declared.requests.Request.{Request}
use Rattle.vm_base.specs.Plain.{Plain}
use Rattle.machine_model.specs.declared.event.Event.{Event}
use Rattle.machine_model.specs.declared.event.Event.TheVariants.{Call}
use Rattle.machine_model.specs.declared.event.Outcome.{Outcome}
use Rattle.machine_model.specs.declared.event.Outcome.TheVariants.{Stepped, Answered}
use Rattle.machine_model.specs.declared.phase.Phase.TheVariants.{Free}
use Rattle.machine_model.specs.Events.{core_of}
use Rattle.machine_model.specs.World.{World}
use Rattle.machine_model.specs.Step.{Run}
use Rattle.machine_model.specs.Log.{LeadsTo}
use Rattle.machine_model.specs.Sound.{IsReached}
use Rattle.litmus_merges.specs.declared.asked.Asked.{Asked}
use Rattle.litmus_merges.specs.Finals.{AreShown, loads_by}
use Rattle.litmus_merges.specs.Merging.{IsCombination, IsEnd}

-- what is said between a core and the address space: the core asks, and is told a reply
pub data Said : Type 0 where
  Asks : Request → Said
  Tells : Reply → Said

-- the event begins a call of the core
abbrev pub asks_by : ℕ → Event → List Said
asks_by core (Call c request) = if c == core then Asks request ∷ [] else []
asks_by core _ = []

-- an event of this core hands out a reply
abbrev pub tells_by : ℕ → Option ℕ → Reply → List Said
tells_by core None reply = []
tells_by core (Some c) reply = if c == core then Tells reply ∷ [] else []

-- what is said to or by the core with an event that came to this
abbrev pub said_by : ℕ → Event → Outcome → List Said
said_by core e Stepped = asks_by core e
said_by core e (Answered reply) = tells_by core (core_of e) reply
said_by core e _ = []

-- the same of a list of events
abbrev pub said : ℕ → List Event → List Outcome → List Said
said core [] os = []
said core (e ∷ es) [] = []
said core (e ∷ es) (o ∷ os) = said_by core e o ++ said core es os

-- what calls with these replies have said to or by the core: each of its calls, in order, and its reply
abbrev pub said_of : ℕ → Asked → Reply → List Said
said_of core call reply = if call.core == core then Asks call.request ∷ Tells reply ∷ [] else []

abbrev pub scripted : ℕ → List Asked → List Reply → List Said
scripted core [] replies = []
scripted core (call ∷ calls) [] = []
scripted core (call ∷ calls) (reply ∷ replies) = said_of core call reply ++ scripted core calls replies

-- The events perform the calls with these replies: each core begins the calls of its list, one after another, and
-- is told these replies. All other events are free.
pub record PerformsScript (calls : List Asked) (replies : List Reply) (es : List Event) (os : List Outcome) : Type 0
  where
    pub each : length replies ≡ length calls
    pub says : (core : ℕ) → said core es os ≡ scripted core calls replies

-- none of the replies says that no frame was free, or that a call was given up
abbrev pub ArePlain : List Reply → Type 0
ArePlain replies = (k : ℕ) (y : Reply) → slice_get replies k ≡ Some y → (y ≢ NoFrame) × (y ≢ NoMemory)

-- from a reached state without calls, whose log leads to the plain page map t
abbrev pub PerformedAreCombinations : Type 0
PerformedAreCombinations =
    (w v : World) (t : Plain) (es : List Event) (os : List Outcome) (calls : List Asked) (replies : List Reply)
    → IsReached w → ((c : ℕ) → w.calls.phase c ≡ Free) → LeadsTo w t
    → Run w es os v → PerformsScript calls replies es os → ArePlain replies
    → IsCombination calls t replies

-- no core has a call, and the log leads to this plain page map
pub record IsAtRest (w : World) (t : Plain) : Type 0 where
  pub free : (c : ℕ) → w.calls.phase c ≡ Free
  pub leads : LeadsTo w t

-- what performs the calls ends without calls, and its log leads to a map that these replies leave
abbrev pub PerformedEndAtRest : Type 0
PerformedEndAtRest =
    (w v : World) (t : Plain) (es : List Event) (os : List Outcome) (calls : List Asked) (replies : List Reply)
    → IsReached w → IsAtRest w t → Run w es os v → PerformsScript calls replies es os → ArePlain replies
    → (u : Plain) × IsEnd calls t replies u × IsAtRest v u

-- and a core that then loads from some addresses sees what that map shows
abbrev pub FinalsAreShown : Type 0
FinalsAreShown =
    (w v x : World) (t : Plain) (es later : List Event) (os ends : List Outcome) (calls : List Asked)
    (replies finals : List Reply) (core : ℕ) (addrs : List ℕ)
    → IsReached w → IsAtRest w t → Run w es os v → PerformsScript calls replies es os → ArePlain replies
    → Run v later ends x → PerformsScript (loads_by core addrs) finals later ends → ArePlain finals
    → (u : Plain) × IsEnd calls t replies u × AreShown u addrs finals × IsAtRest x u
