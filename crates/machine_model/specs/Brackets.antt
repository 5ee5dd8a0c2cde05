-- Brackets of calls: in the log of a run each reply stands once, between the event that began its
-- call and the event that handed it out. Events are numbered from 1, and so are the calls begun.
use Rattle.std.specs.Prelude.{◌≡◌, ◌≢◌, ℕ, suc, ◌<◌, ◌≤◌, List, [], ◌∷◌, ◌++◌, take, slice_get}
use Rattle.std.specs.Prelude.{Some}
use Rattle.vm_base.specs.declared.replies.Reply.{Reply}
use Rattle.vm_base.specs.declared.requests.Request.{Request}
use Rattle.vm_base.specs.declared.requests.Request.TheVariants.{Store}
use Rattle.vm_base.specs.Log.{nth}
use Rattle.vm_base.specs.Pages.{page_of}
use Rattle.slot_lock.specs.Slots.{Slots, IsNew}
use Rattle.machine_model.specs.declared.event.Event.{Event}
use Rattle.machine_model.specs.declared.event.Event.TheVariants.{Call}
use Rattle.machine_model.specs.declared.event.Outcome.{Outcome}
use Rattle.machine_model.specs.declared.event.Outcome.TheVariants.{Stepped, Answered}
use Rattle.vm_base.specs.declared.log.Entry.{Entry}
use Rattle.vm_base.specs.declared.log.Entry.TheVariants as EntryOf
use Rattle.machine_model.specs.Events.{core_of}
use Rattle.machine_model.specs.World.{World, Made, new_world}
use Rattle.machine_model.specs.Step.{Run}

-- ---- the calls of a run

-- a call that was begun, and the number of the event that began it
pub record Begun : Type 0 where
  pub core : ℕ
  pub request : Request
  pub step : ℕ

-- the n-th event begins a call if it is a Call that stepped
abbrev pub begun_by : ℕ → Event → Outcome → List Begun
begun_by n (Call core request) Stepped = record { core = core; request = request; step = n } ∷ []
begun_by n _ _ = []

-- the calls that events begin, in order, where the first of the events is the n-th
abbrev pub calls_from : ℕ → List Event → List Outcome → List Begun
calls_from n (e ∷ es) (o ∷ os) = begun_by n e o ++ calls_from (suc n) es os
calls_from n _ _ = []

-- the calls that begin in a run, numbered from 1 on, with their requests
abbrev pub calls_of : List Event → List Outcome → List Begun
calls_of es os = calls_from 1 es os

-- their requests, in order
abbrev pub requests_of : List Begun → List Request
requests_of [] = []
requests_of (b ∷ bs) = b.request ∷ requests_of bs

-- the core's latest call has this number
pub record IsLatest (calls : List Begun) (core n : ℕ) : Type 0 where
  pub is_begun : (b : Begun) × (nth calls n ≡ Some b) × (b.core ≡ core)
  pub latest : (m : ℕ) (b : Begun) → n < m → nth calls m ≡ Some b → b.core ≢ core

-- ---- the log

-- the number of the event that made the entry
abbrev pub step_of : Entry → ℕ
step_of (EntryOf.Answer step call core reply) = step
step_of (EntryOf.Detach step call page) = step

-- at this place of the log stands the reply to a call
abbrev pub IsAnswer : List Entry → ℕ → ℕ → ℕ → ℕ → Reply → Type 0
IsAnswer log place step call core reply =
    slice_get log place ≡ Some (EntryOf.Answer step call core reply)

-- at this place of the log stands the copy of a page that was made for a call
abbrev pub IsDetach : List Entry → ℕ → ℕ → ℕ → ℕ → Type 0
IsDetach log place step call page = slice_get log place ≡ Some (EntryOf.Detach step call page)

-- a store of a byte of the page
abbrev pub IsStoreTo : Request → ℕ → Type 0
IsStoreTo (Store addr byte) page = page_of addr ≡ page
IsStoreTo _ page = ⊥

-- the log has the reply to a call from an event before the n-th
abbrev pub IsAnsweredBefore : ℕ → List Entry → ℕ → ℕ → Reply → Type 0
IsAnsweredBefore n log call core reply =
    (place step : ℕ) × IsAnswer log place step call core reply × (step < n)

-- ---- the brackets

-- The events came to these outcomes, with these requests kept and this log.
pub record IsBracketed (es : List Event) (os : List Outcome) (kept : List Request)
    (log : List Entry) : Type 0 where
  -- the steps in the log rise
  pub rises : (i j : ℕ) (x y : Entry) → i < j → slice_get log i ≡ Some x
      → slice_get log j ≡ Some y
      → step_of x < step_of y
  -- each reply is that of a call of its core, begun before it
  pub begun : (i step call core : ℕ) (reply : Reply) → IsAnswer log i step call core reply
      → (b : Begun) × (nth (calls_of es os) call ≡ Some b) × (b.core ≡ core) × (b.step < step)
  -- no call has two
  pub once : (i j step step2 call core core2 : ℕ) (reply reply2 : Reply)
      → IsAnswer log i step call core reply
      → IsAnswer log j step2 call core2 reply2 → i ≡ j
  -- each copy was made for a store to its page, begun before it, whose reply stands in no earlier
  -- place
  pub copies : (i step call page : ℕ) → IsDetach log i step call page
      → (b : Begun) × (nth (calls_of es os) call ≡ Some b) × IsStoreTo b.request page
      × (b.step < step)
      × ((j step2 core : ℕ) (reply : Reply) → IsAnswer log j step2 call core reply → i < j)
  -- after n events comes one that hands out a reply: it is that of the core's latest call, and
  -- stands in the log before
  pub answered : (n core : ℕ) (e : Event) (reply : Reply) → nth es (suc n) ≡ Some e
      → core_of e ≡ Some core
      → nth os (suc n) ≡ Some (Answered reply)
      → (call : ℕ) × IsLatest (calls_of (take n es) (take n os)) core call
      × IsAnsweredBefore (suc n) log call core reply
  -- the requests kept are those of the calls
  pub requests : kept ≡ requests_of (calls_of es os)

abbrev pub AllRunsBracketed : Type 0
AllRunsBracketed = (made : Made) (slots : Slots) (es : List Event) (os : List Outcome) (w : World)
    → made.cores ≤ 64 → IsNew slots → Run (new_world made slots) es os w
    → IsBracketed es os w.calls.requests w.calls.log
