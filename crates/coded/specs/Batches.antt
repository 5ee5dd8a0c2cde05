-- What a batch comes to: which events were taken, and what is told of them
use Rattle.std.specs.Prelude.{◌≡◌, ℕ, ◌^◌, ◌⊎◌, Bool, false, List, [], ◌∷◌, ◌++◌, length, take, drop, map, nat_lt}
use Rattle.std.specs.Prelude.{Option, None, Some, slice_get, Result, Ok, Err, ◌||◌, if◌then◌else◌}
use Rattle.vm_base.specs.declared.memory.NoMemory.{NoMemory as MemoryFault}
use Rattle.slot_lock.specs.Slots.{Slots, IsNew}
use Rattle.machine_model.specs.declared.event.Event.{Event}
use Rattle.machine_model.specs.declared.event.Outcome.{Outcome}
use Rattle.machine_model.specs.World.{World, Made, new_world}
use Rattle.machine_model.specs.Step.{Run, Step}
use Rattle.machine_model.specs.Brackets.{IsBracketed}
use Rattle.machine_model.specs.Sound.{SoundRun}
use Rattle.core_steps.specs.declared.machine.Finished.{Finished}
use Rattle.core_steps.specs.declared.machine.Finished.TheVariants.{Last, Stuck}
use Rattle.machine_model.specs.declared.setup.SetupFault.{SetupFault}
use Rattle.machine_model.specs.declared.setup.SetupFault.TheVariants as Fault
use Rattle.core_steps.specs.Finishing.{Calls, Finishes, IsCallRefused, IsRefused}
use Rattle.core_steps.specs.Machine.{IsLegal}
use Rattle.core_steps.specs.Moving.{MayWant}
use Rattle.core_steps.specs.Running.{LogsPlainly}
use Rattle.coded.specs.declared.codes.BatchItem.{BatchItem}
use Rattle.coded.specs.declared.codes.BatchItem.TheVariants as To
use Rattle.coded.specs.declared.codes.RawEvent.{RawEvent}
use Rattle.coded.specs.declared.codes.RawOutcome.{RawOutcome}
use Rattle.coded.specs.declared.opening.RawSetup.{RawSetup}
use Rattle.coded.specs.declared.opening.RawFile.{RawFile}
use Rattle.coded.specs.declared.opening.Refusal.{Refusal}
use Rattle.coded.specs.declared.opening.Refusal.TheVariants as By
use Rattle.coded.specs.declared.batch.BatchStop.{BatchStop}
use Rattle.coded.specs.declared.batch.BatchStop.TheVariants.{BadEvent, NoMemory}
use Rattle.coded.specs.declared.batch.BatchEnd.{BatchEnd}
use Rattle.coded.specs.declared.batch.Done.{Done}
use Rattle.coded.specs.Codes.{event_of, item_of, outcome_code, finished_code}
use Rattle.coded.specs.Opening.{IsMade, Refuses}

-- ---- one event

-- the event was taken, and is told; one that is none, or that memory was refused to, changed nothing
abbrev pub Takes : Bool → World → RawEvent → RawOutcome → Result Unit BatchStop → RawOutcome → World
    → Type 0
Takes keeps w raw was (Ok _) told v = (e : Event) × (o : Outcome) × (event_of raw ≡ Some e)
    × Step w e o v × (told ≡ outcome_code o)
Takes keeps w raw was (Err BadEvent) told v = (event_of raw ≡ None) × (v ≡ w) × (told ≡ was)
Takes keeps w raw was (Err NoMemory) told v = (e : Event) × (event_of raw ≡ Some e)
    × MayWant keeps w e × (v ≡ w) × (told ≡ was)

-- what an item of a batch of calls does
abbrev pub Makes : World → BatchItem → Finished → World → Type 0
Makes w (To.Call core request) finished v = Calls w core request finished v
Makes w (To.Finish core) finished v = Finishes w core finished v
Makes w (To.Step event) (Last outcome) v = Step w event outcome v
Makes w (To.Step event) Stuck v = ⊥

-- some step of it was refused for memory, and those before it were made
abbrev pub IsItemRefused : Bool → World → BatchItem → World → Type 0
IsItemRefused keeps w (To.Call core request) v = IsCallRefused keeps w core request v
IsItemRefused keeps w (To.Finish core) v = IsRefused keeps w core v
IsItemRefused keeps w (To.Step event) v = (v ≡ w) × MayWant keeps w event

-- an item is made, or a step of it is refused for want of memory, before which its steps stay made
abbrev pub MakesOne : Bool → World → BatchItem → Result Finished MemoryFault → World → Type 0
MakesOne keeps w item (Ok finished) v = Makes w item finished v
MakesOne keeps w item (Err _) v = IsItemRefused keeps w item v

-- what C wrote is read and made, if it asks for something
abbrev pub MakesRaw : Bool → World → RawEvent → Option (Result Finished MemoryFault) → World → Type 0
MakesRaw keeps w raw (Some made) v = (i : BatchItem) × (item_of raw ≡ Some i) × MakesOne keeps w i made v
MakesRaw keeps w raw None v = (item_of raw ≡ None) × (v ≡ w)

-- what C wrote is read and made, or stops the batch
abbrev pub TakesItem : Bool → World → RawEvent → RawOutcome → Result Unit BatchStop → RawOutcome
    → World → Type 0
TakesItem keeps w raw was (Ok _) told v = (i : BatchItem) × (f : Finished) × (item_of raw ≡ Some i)
    × Makes w i f v × (told ≡ finished_code f)
TakesItem keeps w raw was (Err BadEvent) told v = (item_of raw ≡ None) × (v ≡ w) × (told ≡ was)
TakesItem keeps w raw was (Err NoMemory) told v = (i : BatchItem) × (item_of raw ≡ Some i)
    × IsItemRefused keeps w i v × (told ≡ was)

-- ---- many

-- the items, one after another, come to this
abbrev pub MakesAll : World → List BatchItem → List Finished → World → Type 0
MakesAll w [] [] v = v ≡ w
MakesAll w (i ∷ is) (f ∷ fs) v = (m : World) × Makes w i f m × MakesAll m is fs v
MakesAll w [] (f ∷ fs) v = ⊥
MakesAll w (i ∷ is) [] v = ⊥

-- so many events were taken, and what each came to is told in its place; the other places are as
-- they were
pub record RunsFirst (w : World) (raws : List RawEvent) (n : ℕ) (was now : List RawOutcome)
    (v : World) : Type 0 where
  pub events : List Event
  pub outcomes : List Outcome
  pub said : map event_of (take n raws) ≡ map Some events
  pub run : Run w events outcomes v
  pub count : length outcomes ≡ n
  pub told : now ≡ map outcome_code outcomes ++ drop n was

-- the first n items are made one after another, and each is told
pub record MakesFirst (w : World) (raws : List RawEvent) (n : ℕ) (was now : List RawOutcome)
    (v : World) : Type 0 where
  pub items : List BatchItem
  pub finished : List Finished
  pub said : map item_of (take n raws) ≡ map Some items
  pub made : MakesAll w items finished v
  pub count : length finished ≡ n
  pub told : now ≡ map finished_code finished ++ drop n was

-- all were taken, or the next is none, or memory was refused to it
abbrev pub StopsAt : Bool → List RawEvent → Option BatchStop → ℕ → World → Type 0
StopsAt keeps raws None n v = n ≡ length raws
StopsAt keeps raws (Some BadEvent) n v =
    (raw : RawEvent) × (slice_get raws n ≡ Some raw) × (event_of raw ≡ None)
StopsAt keeps raws (Some NoMemory) n v =
    (raw : RawEvent) × (slice_get raws n ≡ Some raw)
    × ((e : Event) × (event_of raw ≡ Some e) × MayWant keeps v e)

-- where and why a batch stops: at its end, at what is no item, or for want of memory
abbrev pub ItemStopsAt : Bool → List RawEvent → Option BatchStop → ℕ → World → World → Type 0
ItemStopsAt keeps raws None n m v = (n ≡ length raws) × (v ≡ m)
ItemStopsAt keeps raws (Some BadEvent) n m v =
    (raw : RawEvent) × (slice_get raws n ≡ Some raw) × (item_of raw ≡ None) × (v ≡ m)
ItemStopsAt keeps raws (Some NoMemory) n m v =
    (raw : RawEvent) × (slice_get raws n ≡ Some raw)
    × ((i : BatchItem) × (item_of raw ≡ Some i) × IsItemRefused keeps m i v)

-- of an item that memory was refused to some steps may have been made
abbrev pub MakesUntil : Bool → World → List RawEvent → BatchEnd → List RawOutcome → List RawOutcome
    → World → Type 0
MakesUntil keeps w raws ended was told v =
    (m : World) × MakesFirst w raws ended.count was told m
    × ItemStopsAt keeps raws ended.stop ended.count m v

-- ---- a batch on a new machine

-- a buffer may be said to have 2^32 items
abbrev pub length_limit : ℕ
length_limit = 2 ^ 32

-- more than a batch may have
abbrev pub is_past : ℕ → Bool
is_past n = nat_lt length_limit n

-- why a batch is refused before its first item
abbrev pub refusal_of : ℕ → ℕ → ℕ → ℕ → Option Refusal
refusal_of files bytes raws room =
    if is_past files || is_past bytes || is_past raws || is_past room then Some By.TooLong
    else if nat_lt room raws then Some By.NoRoom
    else None

-- the lengths of the buffers are refused, or no machine is made
abbrev pub RefusesBatch : RawSetup → List RawFile → List ℕ → List RawEvent → List RawOutcome
    → Refusal → Type 0
RefusesBatch setup files bytes raws was refusal =
    (refusal_of (length files) (length bytes) (length raws) (length was) ≡ Some refusal)
    ⊎ Refuses setup files bytes refusal

-- The first events were taken by a machine that was new. What they came to is a run of the abstract
-- machine, whose log is that of a plain page map (POSIX.1-2017, mmap, munmap and mprotect), with each
-- reply once between its call and its answer, and in each of whose states each translation agrees
-- with that map.
pub record RanOnNew (setup : RawSetup) (files : List RawFile) (bytes : List ℕ) (raws : List RawEvent)
    (was : List RawOutcome) (ended : BatchEnd) (told : List RawOutcome) : Type 0 where
  pub made : Made
  pub is_made : IsMade setup files bytes made
  pub slots : Slots
  pub new : IsNew slots
  pub last : World
  pub runs : RunsFirst (new_world made slots) raws ended.count was told last
  pub stops : StopsAt false raws ended.stop ended.count last
  pub plain : LogsPlainly made.file runs.events runs.outcomes last.calls.log
  pub brackets : IsBracketed runs.events runs.outcomes last.calls.requests last.calls.log
  pub sound : SoundRun (new_world made slots) runs.events runs.outcomes last

-- a batch of events on a new machine
abbrev pub RunsBatch : RawSetup → List RawFile → List ℕ → List RawEvent → List RawOutcome
    → Result BatchEnd Refusal → List RawOutcome → Type 0
RunsBatch setup files bytes raws was (Ok ended) told =
    RanOnNew setup files bytes raws was ended told
RunsBatch setup files bytes raws was (Err refusal) told =
    RefusesBatch setup files bytes raws was refusal × (told ≡ was)

-- The first calls were made by a machine that was new, and left a legal state: a run leads to it, its
-- log is that of a plain page map, with which each translation agrees.
pub record MadeOnNew (setup : RawSetup) (files : List RawFile) (bytes : List ℕ)
    (raws : List RawEvent) (was : List RawOutcome) (ended : BatchEnd) (told : List RawOutcome) : Type 0 where
  pub made : Made
  pub is_made : IsMade setup files bytes made
  pub slots : Slots
  pub new : IsNew slots
  pub last : World
  pub makes : MakesUntil false (new_world made slots) raws ended was told last
  pub legal : IsLegal last

-- a batch of items on a new machine
abbrev pub CallsBatch : RawSetup → List RawFile → List ℕ → List RawEvent → List RawOutcome
    → Result BatchEnd Refusal → List RawOutcome → Type 0
CallsBatch setup files bytes raws was (Ok ended) told =
    MadeOnNew setup files bytes raws was ended told
CallsBatch setup files bytes raws was (Err refusal) told =
    RefusesBatch setup files bytes raws was refusal × (told ≡ was)

-- ---- codes of how it ended

abbrev pub fault_code : SetupFault → ℕ
fault_code Fault.Cores = 11
fault_code Fault.Frames = 12
fault_code Fault.TooManyFiles = 13
fault_code Fault.FileTooLong = 14
fault_code Fault.Calls = 15
fault_code Fault.NoMemory = 16

abbrev pub stop_code : Option BatchStop → ℕ
stop_code None = 0
stop_code (Some BadEvent) = 1
stop_code (Some NoMemory) = 2

abbrev pub refusal_done : Refusal → Done
refusal_done By.NoRoom = record { status = 3; count = 0 }
refusal_done By.TooLong = record { status = 4; count = 0 }
refusal_done (By.BadFile at) = record { status = 5; count = at }
refusal_done By.Empty = record { status = 7; count = 0 }
refusal_done By.InUse = record { status = 8; count = 0 }
refusal_done By.NoLog = record { status = 10; count = 0 }
refusal_done (By.Setup fault) = record { status = fault_code fault; count = 0 }

-- the status and the count that C reads
abbrev pub done_of : Result BatchEnd Refusal → Done
done_of (Ok ended) = record { status = stop_code ended.stop; count = ended.count }
done_of (Err refusal) = refusal_done refusal

-- what C reads is the code of what came of the batch
abbrev pub TellsRun : RawSetup → List RawFile → List ℕ → List RawEvent → List RawOutcome → Done
    → List RawOutcome → Type 0
TellsRun setup files bytes raws was done told = (r : Result BatchEnd Refusal)
    × (done ≡ done_of r) × RunsBatch setup files bytes raws was r told

-- what C reads of a batch of items
abbrev pub TellsCalls : RawSetup → List RawFile → List ℕ → List RawEvent → List RawOutcome → Done
    → List RawOutcome → Type 0
TellsCalls setup files bytes raws was done told = (r : Result BatchEnd Refusal)
    × (done ≡ done_of r) × CallsBatch setup files bytes raws was r told
