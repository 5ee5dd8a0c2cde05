-- What C asks of the machine that a handle has, and what it is told
use Rattle.std.specs.Prelude.{◌≡◌, ℕ, Bool, true, false, ◌&&◌, List, [], length, nat_lt, if◌then◌else◌}
use Rattle.std.specs.Prelude.{Option, None, Some, Result, Ok, Err}
use Rattle.std.specs.Option.{unwrap_or}
use Rattle.vm_base.specs.Pages.{is_page}
use Rattle.mmu.specs.Tables.{word_of}
use Rattle.machine_model.specs.World.{World}
use Rattle.core_steps.specs.Machine.{state}
use Rattle.coded.specs.declared.codes.RawEvent.{RawEvent}
use Rattle.coded.specs.declared.codes.RawOutcome.{RawOutcome}
use Rattle.coded.specs.declared.opening.RawSetup.{RawSetup}
use Rattle.coded.specs.declared.opening.RawFile.{RawFile}
use Rattle.coded.specs.declared.opening.Refusal.{Refusal}
use Rattle.coded.specs.declared.opening.Refusal.TheVariants as By
use Rattle.coded.specs.declared.batch.BatchStop.{BatchStop}
use Rattle.coded.specs.declared.batch.BatchEnd.{BatchEnd}
use Rattle.coded.specs.declared.batch.Done.{Done}
use Rattle.coded.specs.declared.held.AnyMachine.{AnyMachine}
use Rattle.coded.specs.declared.held.AnyMachine.TheVariants.{Plain, Logged}
use Rattle.coded.specs.Opening.{OpensAs, wants_log}
use Rattle.coded.specs.Batches.{Takes, TakesItem, RunsFirst, StopsAt, MakesUntil, RefusesBatch}
use Rattle.coded.specs.Batches.{refusal_of, refusal_done, stop_code, done_of}

-- the state of a machine, and whether it keeps its log
pub record HeldState : Type 0 where
  pub world : World
  pub keeps : Bool

-- the state of a held machine, and whether its log is kept
abbrev pub held_state : AnyMachine → HeldState
held_state (Plain machine) = record { world = state machine; keeps = false }
held_state (Logged machine) = record { world = state machine; keeps = true }

-- that of the machine, if there is one
abbrev pub state_in : Option AnyMachine → Option HeldState
state_in None = None
state_in (Some held) = Some (held_state held)

-- what it does to its log stays, and its state becomes one of which P holds
abbrev pub GoesOn : HeldState → (World → Type 0) → HeldState → Type 0
GoesOn h P k = (v : World) × (k ≡ record h { world = v }) × P v

-- ---- a new machine

-- the handle has one already, or the lengths are refused, or no machine is made
abbrev pub RefusesNew : RawSetup → List RawFile → List ℕ → Option HeldState → Refusal → Type 0
RefusesNew setup files bytes (Some h) refusal = refusal ≡ By.InUse
RefusesNew setup files bytes None refusal = RefusesBatch setup files bytes [] [] refusal

-- a new machine, which keeps its log where that was asked for
abbrev pub OpensHeld : RawSetup → List RawFile → List ℕ → HeldState → Type 0
OpensHeld setup files bytes h =
    OpensAs setup files bytes h.world × (h.keeps ≡ wants_log setup)

-- an empty handle has one now, or all is as it was
abbrev pub OpensIn : RawSetup → List RawFile → List ℕ → Option HeldState → Result Unit Refusal
    → Option HeldState → Type 0
OpensIn setup files bytes was (Ok _) now =
    (was ≡ None) × ((h : HeldState) × OpensHeld setup files bytes h × (now ≡ Some h))
OpensIn setup files bytes was (Err refusal) now =
    RefusesNew setup files bytes was refusal × (now ≡ was)

abbrev pub made_code : Result Unit Refusal → Done
made_code (Ok _) = record { status = 0; count = 0 }
made_code (Err refusal) = refusal_done refusal

-- what C reads of a making
abbrev pub TellsNew : RawSetup → List RawFile → List ℕ → Option HeldState → Done → Option HeldState
    → Type 0
TellsNew setup files bytes was done now =
    (r : Result Unit Refusal) × (done ≡ made_code r) × OpensIn setup files bytes was r now

-- ---- one event, or one item

-- the status of one item
abbrev pub taken_code : Result Unit BatchStop → ℕ
taken_code (Ok _) = 0
taken_code (Err stop) = stop_code (Some stop)

-- the handle has no machine
abbrev pub empty_code : ℕ
empty_code = 7

-- the event, from where the machine is
abbrev pub TakesOn : HeldState → RawEvent → RawOutcome → Result Unit BatchStop → RawOutcome → HeldState
    → Type 0
TakesOn h raw was r told k = GoesOn h (Takes h.keeps h.world raw was r told) k

-- the item, from where the machine is
abbrev pub TakesItemOn : HeldState → RawEvent → RawOutcome → Result Unit BatchStop → RawOutcome
    → HeldState → Type 0
TakesItemOn h raw was r told k = GoesOn h (TakesItem h.keeps h.world raw was r told) k

-- an empty handle is told, and nothing changes; else the machine that it has takes the event
abbrev pub TellsStep : Option HeldState → RawEvent → RawOutcome → ℕ → RawOutcome → Option HeldState
    → Type 0
TellsStep None raw was status told now = (status ≡ empty_code) × (told ≡ was) × (now ≡ None)
TellsStep (Some h) raw was status told now = (r : Result Unit BatchStop) × (k : HeldState)
    × (status ≡ taken_code r) × (now ≡ Some k) × TakesOn h raw was r told k

-- likewise an item of a batch of calls
abbrev pub TellsCall : Option HeldState → RawEvent → RawOutcome → ℕ → RawOutcome → Option HeldState
    → Type 0
TellsCall None raw was status told now = (status ≡ empty_code) × (told ≡ was) × (now ≡ None)
TellsCall (Some h) raw was status told now = (r : Result Unit BatchStop) × (k : HeldState)
    × (status ≡ taken_code r) × (now ≡ Some k) × TakesItemOn h raw was r told k

-- ---- many

-- the lengths are refused, and nothing changes
abbrev pub RefusesOn : HeldState → List RawEvent → List RawOutcome → Refusal → List RawOutcome
    → HeldState → Type 0
RefusesOn h raws was refusal told k =
    (refusal_of 0 0 (length raws) (length was) ≡ Some refusal) × (told ≡ was) × (k ≡ h)

-- so many events were taken
abbrev pub RunsUntil : Bool → World → List RawEvent → BatchEnd → List RawOutcome → List RawOutcome
    → World → Type 0
RunsUntil keeps w raws ended was told v =
    RunsFirst w raws ended.count was told v × StopsAt keeps raws ended.stop ended.count v

-- the events, from where the machine is
abbrev pub RunsOn : HeldState → List RawEvent → List RawOutcome → Result BatchEnd Refusal
    → List RawOutcome → HeldState → Type 0
RunsOn h raws was (Ok ended) told k = GoesOn h (RunsUntil h.keeps h.world raws ended was told) k
RunsOn h raws was (Err refusal) told k = RefusesOn h raws was refusal told k

-- the items, from where the machine is
abbrev pub CallsOn : HeldState → List RawEvent → List RawOutcome → Result BatchEnd Refusal
    → List RawOutcome → HeldState → Type 0
CallsOn h raws was (Ok ended) told k = GoesOn h (MakesUntil h.keeps h.world raws ended was told) k
CallsOn h raws was (Err refusal) told k = RefusesOn h raws was refusal told k

abbrev pub empty_done : Done
empty_done = refusal_done By.Empty

-- what C reads of a list of events on a held machine
abbrev pub TellsRunOn : Option HeldState → List RawEvent → List RawOutcome → Done
    → List RawOutcome → Option HeldState → Type 0
TellsRunOn None raws was done told now = (done ≡ empty_done) × (told ≡ was) × (now ≡ None)
TellsRunOn (Some h) raws was done told now = (r : Result BatchEnd Refusal) × (k : HeldState)
    × (done ≡ done_of r) × (now ≡ Some k) × RunsOn h raws was r told k

-- what C reads of a list of items on a held machine
abbrev pub TellsCallsOn : Option HeldState → List RawEvent → List RawOutcome → Done
    → List RawOutcome → Option HeldState → Type 0
TellsCallsOn None raws was done told now = (done ≡ empty_done) × (told ≡ was) × (now ≡ None)
TellsCallsOn (Some h) raws was done told now = (r : Result BatchEnd Refusal) × (k : HeldState)
    × (done ≡ done_of r) × (now ≡ Some k) × CallsOn h raws was r told k

-- ---- what the machine has

abbrev pub cores_of : Option HeldState → ℕ
cores_of None = 0
cores_of (Some h) = h.world.made.cores

-- the word that the core's tables have for the page (Intel SDM volume 3A, 4-level paging), 0 where
-- they have none, if the machine has the core, and there is such a page
abbrev pub entry_of : World → ℕ → ℕ → Option ℕ
entry_of w core page =
    if nat_lt core w.made.cores && is_page page
    then Some (unwrap_or (word_of (w.hardware.table core page)) 0) else None

-- there is no such entry
abbrev pub absent_code : ℕ
absent_code = 9

-- the word of an entry is told, or that there is none such
abbrev pub TellsWord : Option ℕ → ℕ → ℕ → ℕ → Type 0
TellsWord None was status told = (status ≡ absent_code) × (told ≡ was)
TellsWord (Some word) was status told = (status ≡ 0) × (told ≡ word)

-- what C reads of an entry of a core's tables
abbrev pub TellsEntry : Option HeldState → ℕ → ℕ → ℕ → ℕ → ℕ → Type 0
TellsEntry None core page was status told = (status ≡ empty_code) × (told ≡ was)
TellsEntry (Some h) core page was status told =
    TellsWord (entry_of h.world core page) was status told
