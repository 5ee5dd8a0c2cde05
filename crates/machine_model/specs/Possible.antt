-- Where an event isn't possible, and where the machine is full
use Rattle.std.specs.Prelude.{◌≡◌, ◌≢◌, ℕ, ◌≤◌, ◌⊎◌, ◌&&◌, Bool, true, false, length, [], None}
use Rattle.mmu.specs.Tlb.{tlb_at}
use Rattle.refcache.specs.declared.reports.Flush.TheVariants as flush
use Rattle.refcache.specs.declared.reports.Review.TheVariants as review
use Rattle.refcache.specs.Steps.{Flushing, Reviewing, Takes}
use Rattle.machine_model.specs.declared.event.Event.{Event}
use Rattle.machine_model.specs.declared.event.Event.TheVariants.{Call, Go, Frame, Guess, Whole, Take}
use Rattle.machine_model.specs.declared.event.Event.TheVariants.{Walk, Evict, Flush, Review, Fold}
use Rattle.machine_model.specs.declared.event.Event.TheVariants.{GiveUp}
use Rattle.machine_model.specs.declared.event.Outcome.{Outcome}
use Rattle.machine_model.specs.declared.event.Outcome.TheVariants.{Idle, Full}
use Rattle.machine_model.specs.declared.phase.Phase.{Phase}
use Rattle.machine_model.specs.declared.phase.Phase.TheVariants.{Free, Guess as Guessing, Want}
use Rattle.machine_model.specs.declared.phase.Phase.TheVariants.{CopyAcks}
use Rattle.machine_model.specs.Changes.{Awaits}
use Rattle.machine_model.specs.Events.{core_of}
use Rattle.machine_model.specs.Holding.{can_give_up}
use Rattle.vm_base.specs.Runs.{lies_in}
use Rattle.machine_model.specs.Step.{event_limit, is_here}
use Rattle.machine_model.specs.Translating.{can_walk}
use Rattle.machine_model.specs.World.{World, Hardware}

-- ---- idle events

-- the call is to take a frame
abbrev pub wants_frame : Phase → Bool
wants_frame (Want touch old) = true
wants_frame _ = false

-- the call looks for a place in its window
abbrev pub looks_for_place : Phase → Bool
looks_for_place (Guessing place) = true
looks_for_place _ = false

-- and has room there from the page on
abbrev pub can_guess : Phase → ℕ → Bool
can_guess (Guessing place) first = lies_in place.window place.count first
can_guess _ first = false

-- the call can't be given up (any more), or it waits for other cores before it makes a copy
abbrev pub CannotGiveUp : Hardware → ℕ → Phase → Type 0
CannotGiveUp h c (CopyAcks touch frame) = (set : ℕ) × Awaits h c set
CannotGiveUp h c phase = can_give_up phase ≡ false

-- Why an event of one of the machine's cores isn't possible. Where a Fold isn't, the slot map says.
abbrev pub IsImpossible : World → Event → Type 0
IsImpossible w (Call c request) = w.calls.phase c ≢ Free
IsImpossible w (Go c) = w.calls.phase c ≡ Free
IsImpossible w (Frame c f) = (wants_frame (w.calls.phase c) && w.memory.is_free f) ≡ false
IsImpossible w (Guess c first) = can_guess (w.calls.phase c) first ≡ false
IsImpossible w (Whole c) = looks_for_place (w.calls.phase c) ≡ false
IsImpossible w (Take c) = w.hardware.inbox c ≡ []
IsImpossible w (Walk c page) = can_walk w.hardware c page ≡ false
IsImpossible w (Evict c page) = tlb_at (w.hardware.tlb c) page ≡ None
IsImpossible w (Flush c) = Takes w.memory.counts (Flushing c flush.Idle) w.memory.counts
IsImpossible w (Review c) = Takes w.memory.counts (Reviewing c review.Idle) w.memory.counts
IsImpossible w (Fold page) = Unit {0}
IsImpossible w (GiveUp c) = CannotGiveUp w.hardware c (w.calls.phase c)

-- the machine lacks the event's core, or the event isn't possible
abbrev pub IsIdle : World → Event → Type 0
IsIdle w event = (is_here w.made (core_of event) ≡ false) ⊎ IsImpossible w event

-- ---- limits

-- so many calls began that no more can, and the core has none
abbrev pub IsPastCalls : World → Event → Type 0
IsPastCalls w (Call c request) = (w.calls.phase c ≡ Free) × (w.made.calls ≤ length w.calls.requests)
IsPastCalls w _ = ⊥

-- the event can't be counted, or is a call that can't begin
abbrev pub IsFull : World → Event → Type 0
IsFull w event = (event_limit ≤ w.calls.events) ⊎ IsPastCalls w event

-- ---- what is said of one outcome alone

-- said only of a step that was idle
abbrev pub OnIdle : Outcome → Type 0 → Type 0
OnIdle Idle said = said
OnIdle _ said = Unit {0}

-- said only of a step that was full
abbrev pub OnFull : Outcome → Type 0 → Type 0
OnFull Full said = said
OnFull _ said = Unit {0}
