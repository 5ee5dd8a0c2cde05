-- Notes in order of their tickets as a run of the machine
use Rattle.std.specs.Prelude.{◌≡◌, ◌≢◌, ℕ, ◌+◌, ◌<◌, Bool, true, false, List, [], ◌∷◌, map, length, count_by, Option, None, Some}
use Rattle.vm_base.specs.declared.log.Entry.{Entry}
use Rattle.vm_base.specs.declared.requests.Request.{Request}
use Rattle.vm_base.specs.Plain.{File}
use Rattle.frames.specs.Given.{given_files}
use Rattle.slot_lock.specs.Slots.{Slots, IsNew}
use Rattle.machine_model.specs.declared.event.Event.{Event}
use Rattle.machine_model.specs.declared.event.Outcome.{Outcome}
use Rattle.machine_model.specs.declared.event.Outcome.TheVariants.{Answered}
use Rattle.machine_model.specs.World.{World, new_world}
use Rattle.machine_model.specs.Step.{Run, Step}
use Rattle.machine_model.specs.Brackets.{IsBracketed}
use Rattle.machine_model.specs.Sound.{SoundRun}
use Rattle.machine_model.specs.declared.setup.Setup.{Setup}
use Rattle.vm_base.specs.declared.page.PageRange.{PageRange}
use Rattle.core_steps.specs.Dividing.{DividesAsMap}
use Rattle.core_steps.specs.Moving.{JoinsAsMap}
use Rattle.core_steps.specs.Running.{LogsPlainly, RunsAsMap}
use Rattle.machine_model.specs.Setups.{fault_of, made_of}
use Rattle.seats.specs.declared.noted.Noted.{Noted}
use Rattle.certifier.specs.declared.result.CertifyFault.{CertifyFault}
use Rattle.certifier.specs.declared.result.CertifyFault.TheVariants as By
use Rattle.vm_base.specs.declared.info.PageInfo.{PageInfo}
use Rattle.live_levels.specs.declared.close.SlotHistory.{SlotHistory}
use Rattle.live_tree.specs.declared.histories.Histories.{Histories}
use Rattle.certifier.specs.Histories.{AllGoAlong, IsFirstAstray}
use Rattle.radix_range.specs.Tree.{root_edges}
use Rattle.certifier.specs.Order.{AreNumbered, IsFirstAmiss, in_order, with_ticket}

abbrev pub event_of : Noted → Event
event_of note = note.event

abbrev pub outcome_of : Noted → Outcome
outcome_of note = note.outcome

abbrev pub events_of : List Noted → List Event
events_of notes = map event_of notes

abbrev pub outcomes_of : List Noted → List Outcome
outcomes_of notes = map outcome_of notes

-- the note hands out a reply
abbrev pub is_answered : Outcome → Bool
is_answered (Answered reply) = true
is_answered _ = false

-- a call ends by this note
abbrev pub answers_call : Noted → Bool
answers_call note = is_answered note.outcome

-- 1 where it holds, so that sums count
abbrev pub one_if : Bool → ℕ
one_if true = 1
one_if false = 0

-- the events of all notes in order of tickets, and what was noted of them
abbrev pub events_in_order : List Noted → List Event
events_in_order notes = events_of (in_order (length notes) notes)

abbrev pub outcomes_in_order : List Noted → List Outcome
outcomes_in_order notes = outcomes_of (in_order (length notes) notes)

-- What a user reads of notes that are certified: they have the tickets below their number, each once. In order of
-- tickets their log leads from no mappings and these files to a plain page map (POSIX.1-2017, mmap, munmap and
-- mprotect), and each reply stands in it once, between its call and its answer. So many calls were answered.
pub record ReadPlainly (file : ℕ → Option File) (notes : List Noted) (answered : ℕ) : Type 0 where
  pub numbered : AreNumbered notes
  pub requests : List Request
  pub log : List Entry
  pub plain : LogsPlainly file (events_in_order notes) (outcomes_in_order notes) log
  pub brackets : IsBracketed (events_in_order notes) (outcomes_in_order notes) requests log
  pub calls : answered ≡ count_by answers_call (in_order (length notes) notes)

-- The notes, which stand in order, are a run of the machine with just the noted outcomes. Its folds
-- and divisions are the map's, and each of its states is sound.
pub record IsRunOfNotes (parts : PageRange → ℕ → ℕ → Bool) (CanFold : Slots → ℕ → Type 0) (Folds : Slots → Slots → ℕ → Type 0)
    (new : World) (notes : List Noted) : Type 0 where
  pub end : World
  pub run : Run new (events_of notes) (outcomes_of notes) end
  pub as_map : RunsAsMap parts CanFold Folds new (events_of notes) (outcomes_of notes) end
  pub sound : SoundRun new (events_of notes) (outcomes_of notes) end

-- the event may lead from one state to the other with this outcome, as the map joins and divides slots
pub record Leads (parts : PageRange → ℕ → ℕ → Bool) (CanFold : Slots → ℕ → Type 0)
    (Folds : Slots → Slots → ℕ → Type 0) (before : World) (event : Event) (outcome : Outcome) (after : World)
    : Type 0 where
  pub step : Step before event outcome after
  pub joins : JoinsAsMap CanFold Folds before event outcome after
  pub divides : DividesAsMap parts before event outcome after

-- the note with ticket t leads from one state to the other
pub record NoteLeads (parts : PageRange → ℕ → ℕ → Bool) (CanFold : Slots → ℕ → Type 0)
    (Folds : Slots → Slots → ℕ → Type 0) (notes : List Noted) (t : ℕ) (before after : World) : Type 0 where
  pub note : Noted
  pub ticket : with_ticket t notes ≡ note ∷ []
  pub leads : Leads parts CanFold Folds before note.event note.outcome after

-- the fault says that the note, with ticket t, has another outcome than its event comes to
abbrev pub Refuses : (PageRange → ℕ → ℕ → Bool) → (Slots → ℕ → Type 0) → (Slots → Slots → ℕ → Type 0)
    → World → Noted → ℕ → CertifyFault → Type 0
Refuses parts CanFold Folds before note t (By.Differs ticket noted expected) =
    (ticket ≡ t) × (noted ≡ note.outcome) × (expected ≢ noted)
    × ((after : World) × Leads parts CanFold Folds before note.event expected after)
Refuses parts CanFold Folds before note t By.NoMemory = Unit {0}
Refuses parts CanFold Folds before note t _ = ⊥

-- a run's states: the first is new, and the note with ticket t leads from state t to the next
pub record AreStates (parts : PageRange → ℕ → ℕ → Bool) (CanFold : Slots → ℕ → Type 0)
    (Folds : Slots → Slots → ℕ → Type 0) (new : World) (notes : List Noted) (n : ℕ) (states : ℕ → World)
    : Type 0 where
  pub first : states 0 ≡ new
  pub each : (t : ℕ) → t < n → NoteLeads parts CanFold Folds notes t (states t) (states (t + 1))

-- what pages have after the event with ticket t
abbrev pub maps_of : (ℕ → World) → ℕ → ℕ → Option PageInfo
maps_of states t page = (states (t + 1)).slots.info page

-- the slots of a new tree: nothing is mapped or held, and they are those of its root
pub record IsNewTree (slots : Slots) : Type 0 where
  pub new : IsNew slots
  pub edges : slots.edge ≡ root_edges

-- a new machine of the setup, which makes one, has this state over some new tree
pub record IsOpening {A : Type 0} (setup : Setup A) (w : World) : Type 0 where
  pub sound : fault_of setup ≡ None
  pub slots : Slots
  pub new : IsNewTree slots
  pub is : w ≡ new_world (made_of setup) slots

-- A user reads the notes plainly, and in order of tickets they are a run of a new machine with that log, along which
-- each of the slots went that has valid pages.
pub record IsCertified {A : Type 0} (parts : PageRange → ℕ → ℕ → Bool) (CanFold : Slots → ℕ → Type 0)
    (Folds : Slots → Slots → ℕ → Type 0) (setup : Setup A) (notes : List Noted)
    (histories : List (SlotHistory A)) (answered : ℕ) : Type 0 where
  pub plain : ReadPlainly (given_files setup.files.items) notes answered
  pub slots : Slots
  pub new : IsNewTree slots
  pub run : IsRunOfNotes parts CanFold Folds (new_world (made_of setup) slots) (in_order (length notes) notes)
  pub requests : run.end.calls.requests ≡ plain.requests
  pub log : run.end.calls.log ≡ plain.log
  pub states : ℕ → World
  pub are_states : AreStates parts CanFold Folds (new_world (made_of setup) slots) notes (length notes) states
  pub end : states (length notes) ≡ run.end
  pub along : AllGoAlong (length notes) (maps_of states) histories

-- the notes are a run of a new machine, and the page is the first of the first slot that didn't go along
pub record GoesAstray {A : Type 0} (parts : PageRange → ℕ → ℕ → Bool) (CanFold : Slots → ℕ → Type 0)
    (Folds : Slots → Slots → ℕ → Type 0) (setup : Setup A) (notes : List Noted)
    (histories : List (SlotHistory A)) (page : ℕ) : Type 0 where
  pub slots : Slots
  pub new : IsNewTree slots
  pub states : ℕ → World
  pub are_states : AreStates parts CanFold Folds (new_world (made_of setup) slots) notes (length notes) states
  pub first : IsFirstAstray (length notes) (maps_of states) histories page

-- the notes with tickets below t are a run of a new machine, which comes then to another outcome
-- than the note with ticket t
pub record DiffersAt {A : Type 0} (parts : PageRange → ℕ → ℕ → Bool) (CanFold : Slots → ℕ → Type 0)
    (Folds : Slots → Slots → ℕ → Type 0) (setup : Setup A) (notes : List Noted) (t : ℕ)
    (noted expected : Outcome) : Type 0 where
  pub slots : Slots
  pub new : IsNewTree slots
  pub note : Noted
  pub ticket : with_ticket t notes ≡ note ∷ []
  pub noted_so : note.outcome ≡ noted
  pub differs : expected ≢ noted
  pub before : World
  pub after : World
  pub run : RunsAsMap parts CanFold Folds (new_world (made_of setup) slots) (events_of (in_order t notes))
      (outcomes_of (in_order t notes)) before
  pub step : Step before note.event expected after
  pub joins : JoinsAsMap CanFold Folds before note.event expected after
  pub divides : DividesAsMap parts before note.event expected after

-- What each fault says of the setup, all notes and the slots' histories. Want of memory comes after a look at the setup.
abbrev pub Fails : {A : Type 0} → (PageRange → ℕ → ℕ → Bool) → (Slots → ℕ → Type 0) → (Slots → Slots → ℕ → Type 0) → Setup A
    → List Noted → List (SlotHistory A) → CertifyFault → Type 0
Fails parts CanFold Folds setup notes histories (By.Setup fault) = fault_of setup ≡ Some fault
Fails parts CanFold Folds setup notes histories (By.Ticket t) = (fault_of setup ≡ None) × IsFirstAmiss notes t
Fails parts CanFold Folds setup notes histories (By.Differs t noted expected) =
    (fault_of setup ≡ None) × AreNumbered notes
    × DiffersAt parts CanFold Folds setup notes t noted expected
Fails parts CanFold Folds setup notes histories (By.Slot page) =
    (fault_of setup ≡ None) × AreNumbered notes
    × GoesAstray parts CanFold Folds setup notes histories page
Fails parts CanFold Folds setup notes histories By.NoMemory = fault_of setup ≡ None

-- a fault but that of a ticket comes only where each ticket stands once
abbrev pub ComesNumbered : List Noted → CertifyFault → Type 0
ComesNumbered notes (By.Ticket t) = Unit {0}
ComesNumbered notes fault = AreNumbered notes

-- the histories of the slots, or none
abbrev pub slots_in : {A : Type 0} → Option (Histories A) → List (SlotHistory A)
slots_in None = []
slots_in (Some histories) = histories.slots.items
