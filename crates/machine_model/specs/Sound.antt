-- What holds in each state that a machine reaches, and of each step from there
use Rattle.std.specs.Prelude.{◌≡◌, ◌≢◌, ℕ, suc, ◌≤◌, ◌⊎◌, Bool, true, false, List, [], ◌∷◌, ◌++◌}
use Rattle.std.specs.Prelude.{slice_get, Some, pos, nat_lt, if◌then◌else◌}
use Rattle.vm_base.specs.declared.replies.Reply.TheVariants.{NoFrame, NoMemory}
use Rattle.vm_base.specs.Plain.{Plain}
use Rattle.slot_lock.specs.Slots.{Slots, IsNew}
use Rattle.vm_base.specs.Info.{is_recorded}
use Rattle.mmu.specs.declared.entry.Translation.{Translation}
use Rattle.mmu.specs.declared.tlb.TlbEntry.{TlbEntry}
use Rattle.refcache.specs.declared.reports.Review.TheVariants as review
use Rattle.refcache.specs.Counts.{Counts, true_count}
use Rattle.refcache.specs.Steps.{Reviewing, Takes}
use Rattle.machine_model.specs.declared.event.Blocker.TheVariants as WaitsFor
use Rattle.machine_model.specs.declared.event.Event.{Event}
use Rattle.machine_model.specs.declared.event.Event.TheVariants.{Go, Review, GiveUp}
use Rattle.machine_model.specs.declared.event.Outcome.{Outcome}
use Rattle.machine_model.specs.declared.event.Outcome.TheVariants.{Wait, Idle, Full}
use Rattle.vm_base.specs.declared.log.Entry.{Entry}
use Rattle.vm_base.specs.declared.log.Entry.TheVariants.{Answer}
use Rattle.machine_model.specs.World.{World, Made, new_world}
use Rattle.machine_model.specs.Accesses.{NoneFree}
use Rattle.machine_model.specs.Events.{core_of}
use Rattle.machine_model.specs.Changes.{Awaits}
use Rattle.machine_model.specs.Holding.{range_in, some_has, taken_in}
use Rattle.machine_model.specs.Step.{Step, Run, event_limit, with_event}
use Rattle.machine_model.specs.Brackets.{step_of}
use Rattle.machine_model.specs.Coherent.{Mirrors, IsCoherentState}
use Rattle.machine_model.specs.Orderly.{IsOrderly}
use Rattle.machine_model.specs.Counted.{users_of, IsCountedState}
use Rattle.machine_model.specs.Log.{LeadsTo}
use Rattle.machine_model.specs.Possible.{IsFull, IsIdle, OnFull, OnIdle}
use Rattle.machine_model.specs.Translations.{Translates, Agrees, IsNamed}

-- ---- a state

-- The log, applied to no mappings and the files of the start, leads to the plain page map t. Each
-- translation of each core agrees with t, and no frame that something names is free to be handed
-- out.
pub record IsSound (w : World) (t : Plain) : Type 0 where
  pub log : LeadsTo w t
  pub agrees : (c p : ℕ) (e : Translation) → Translates w.hardware c p e → Agrees w t p e
  pub named : (f : ℕ) → IsNamed w f → w.memory.is_free f ≡ false
  -- an entry of a core's tables: its slot records the core
  pub recorded : (c p : ℕ) (e : Translation) → w.hardware.table c p ≡ Some e
      → is_recorded (w.slots.info p) c ≡ true
  -- an entry of a core's TLB: its tables have it, or it was cleared from them and its oldest
  -- message isn't acknowledged yet
  pub mirrors : (c i : ℕ) (e : TlbEntry) → slice_get (w.hardware.tlb c) i ≡ Some e
      → Mirrors (w.hardware.table c) (w.hardware.inbox c) e
  -- each frame counts the pages that have it, and one more where it caches a page of a file
  pub users : (f : ℕ) → ((n k : ℕ) → w.memory.cached n k ≢ Some f)
      → true_count w.memory.counts f ≡ pos (users_of w.slots.info f)
  pub cached : (n k f : ℕ) → w.memory.cached n k ≡ Some f
      → true_count w.memory.counts f ≡ pos (suc (users_of w.slots.info f))

-- some plain page map makes the state sound
abbrev pub IsSoundState : World → Type 0
IsSoundState w = (t : Plain) × IsSound w t

-- ---- a step

-- The entry was due at this event, where these frames were free: no frame was at a NoFrame, and a
-- NoMemory answers a call that was given up.
abbrev pub IsDue : Event → (ℕ → Bool) → Entry → Type 0
IsDue event is_free (Answer step call core NoFrame) = NoneFree is_free
IsDue event is_free (Answer step call core NoMemory) = event ≡ GiveUp core
IsDue event is_free _ = Unit {0}

-- the step from w to v, by this event, made no entry, or one with the event's number that was due
abbrev pub Notes : World → Event → World → Type 0
Notes w event v =
    (v.calls.log ≡ w.calls.log)
    ⊎ ((entry : Entry) × (v.calls.log ≡ w.calls.log ++ entry ∷ []) × (step_of entry ≡ v.calls.events)
    × IsDue event w.memory.is_free entry)

-- what made a frame free: a review of Refcache, or a call that had taken it for a page, and is
-- given up or shows a file's frame instead
pub data IsFreedBy (w : World) (event : Event) (f : ℕ) : Type 0 where
  by_review : (c : ℕ) (counts : Counts) → event ≡ Review c
      → Takes w.memory.counts (Reviewing c (review.Freed f)) counts → IsFreedBy w event f
  by_call : (c : ℕ) → core_of event ≡ Some c → taken_in (w.calls.phase c) ≡ Some f
      → IsFreedBy w event f

-- no other frame becomes free
abbrev pub FreesOnly : World → Event → World → Type 0
FreesOnly w event v =
    (f : ℕ) → w.memory.is_free f ≡ false → v.memory.is_free f ≡ true → IsFreedBy w event f

-- What a call waits for is there: another core owns a slot with a page of the call's, or some
-- cores' inboxes, just those of the set, have its message.
abbrev pub IsBlocked : World → Event → Outcome → Type 0
IsBlocked w event (Wait (WaitsFor.Slot by)) =
    (c : ℕ) × (event ≡ Go c) × (by ≢ c) × (p : ℕ) × (some_has (range_in (w.calls.phase c)) p ≡ true)
    × (w.slots.owner p ≡ Some by)
IsBlocked w event (Wait (WaitsFor.Acks set)) = (c : ℕ) × (event ≡ Go c) × Awaits w.hardware c set
IsBlocked w event _ = Unit {0}

-- the event is counted, where one more can be
abbrev pub counted : World → World
counted w = if nat_lt w.calls.events event_limit then with_event w else w

-- what waits, isn't possible or is past a limit changes nothing but the count of events
abbrev pub Stays : World → Outcome → World → Type 0
Stays w (Wait blocker) v = v ≡ counted w
Stays w Idle v = v ≡ counted w
Stays w Full v = v ≡ counted w
Stays w _ v = Unit {0}

-- what is said of a step
pub record IsSoundStep (w : World) (event : Event) (outcome : Outcome) (v : World) : Type 0 where
  pub notes : Notes w event v
  pub frees : FreesOnly w event v
  pub blocked : IsBlocked w event outcome
  pub idle : OnIdle outcome (IsIdle w event)
  pub full : OnFull outcome (IsFull w event)
  pub stays : Stays w outcome v

-- ---- states that are reached

-- A run of a machine over new slots leads to w, with up to 64 cores, any files and any order of
-- events.
pub record IsReached (w : World) : Type 0 where
  pub made : Made
  -- a set of cores tells so many apart, and each has a window of valid pages alone
  pub few : made.cores ≤ 64
  pub slots : Slots
  pub events : List Event
  pub outcomes : List Outcome
  pub new : IsNew slots
  pub run : Run (new_world made slots) events outcomes w

-- each such state is sound
abbrev pub AllReachedAreSound : Type 0
AllReachedAreSound = (w : World) → IsReached w → IsSoundState w

-- In each such state a call owns just the pages that its phase says, tables and TLBs keep up with
-- the slots, and each frame counts its pages: nothing is left in the counts of one that is taken.
pub record KeepsUp (w : World) : Type 0 where
  pub order : IsOrderly w
  pub coherent : IsCoherentState w
  pub counted : IsCountedState w

abbrev pub AllReachedKeepUp : Type 0
AllReachedKeepUp = (w : World) → IsReached w → KeepsUp w

-- and so is each step from there
abbrev pub AllStepsAreSound : Type 0
AllStepsAreSound =
    (w v : World) (event : Event) (outcome : Outcome) → IsReached w → Step w event outcome v
    → IsSoundStep w event outcome v

-- ---- runs, state by state

-- The events, in order, may come to these outcomes one after another; each state on the way is
-- sound, and each step.
abbrev pub SoundRun : World → List Event → List Outcome → World → Type 0
SoundRun w [] [] v = IsSoundState w × (v ≡ w)
SoundRun w (e ∷ es) (o ∷ os) v = IsSoundState w × ((m : World) × Step w e o m × IsSoundStep w e o m
    × SoundRun m es os v)
SoundRun w [] (o ∷ os) v = ⊥
SoundRun w (e ∷ es) [] v = ⊥

abbrev pub AllRunsSound : Type 0
AllRunsSound =
    (made : Made) (slots : Slots) (events : List Event) (outcomes : List Outcome) (w : World)
    → made.cores ≤ 64 → IsNew slots → Run (new_world made slots) events outcomes w
    → SoundRun (new_world made slots) events outcomes w
