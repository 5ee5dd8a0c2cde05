-- Codes, in both directions
use Rattle.std.specs.Prelude.{◌≡◌, ℕ, ◌+◌, ◌<◌, true, List, Option, None, Some, is_some, Result}
use Rattle.vm_base.specs.declared.requests.Request.{Request}
use Rattle.vm_base.specs.declared.requests.Request.TheVariants as Asks
use Rattle.vm_base.specs.declared.replies.Reply.{Reply}
use Rattle.vm_base.specs.declared.log.Entry.{Entry}
use Rattle.vm_base.specs.Log.{nth}
use Rattle.machine_model.specs.World.{World}
use Rattle.machine_model.specs.Brackets.{IsAnswer}
use Rattle.machine_model.specs.declared.event.Event.{Event}
use Rattle.machine_model.specs.declared.event.Event.TheVariants as Ev
use Rattle.machine_model.specs.Events.{core_of as core_that_takes}
use Rattle.core_steps.specs.declared.machine.Finished.{Finished}
use Rattle.coded.specs.declared.codes.RawEvent.{RawEvent}
use Rattle.coded.specs.declared.codes.BatchItem.{BatchItem}
use Rattle.coded.specs.declared.codes.BatchItem.TheVariants as To
use Rattle.coded.specs.declared.batch.BatchEnd.{BatchEnd}
use Rattle.coded.specs.declared.opening.Refusal.{Refusal}
use Rattle.coded.specs.declared.held.AnyMachine.{AnyMachine}
use Rattle.core_steps.specs.Machine.{IsLegal}
use Rattle.coded.specs.Codes.{of_core, of_place, call_code, begin, event_of, item_of, finished_code}
use Rattle.coded.specs.Holding.{held_state}
use Rattle.coded.specs.Logs.{entry_code}
use Rattle.coded.specs.Batches.{done_of}

-- ---- what C writes for an event

abbrev pub event_code : Event → RawEvent
event_code (Ev.Call core request) = call_code core request
event_code (Ev.Go core) = of_core 7 core
event_code (Ev.Frame core frame) = of_place 8 core frame
event_code (Ev.Guess core page) = of_place 9 core page
event_code (Ev.Whole core) = of_core 10 core
event_code (Ev.Take core) = of_core 11 core
event_code (Ev.Walk core page) = of_place 12 core page
event_code (Ev.Evict core page) = of_place 13 core page
event_code (Ev.Flush core) = of_core 14 core
event_code (Ev.Review core) = of_core 15 core
event_code (Ev.Fold page) = of_place 16 0 page
event_code (Ev.GiveUp core) = of_core 17 core

-- a call is whole where its kind is all that is written
abbrev pub item_code : BatchItem → RawEvent
item_code (To.Call core request) = call_code core request
item_code (To.Finish core) = of_core 18 core
item_code (To.Step event) =
    let code = event_code event in record code { kind = begin + code.kind }

-- the machine's cores are below 64, and its bytes below 256
abbrev pub IsCore : Option ℕ → Type 0
IsCore None = Unit {0}
IsCore (Some core) = core < 64

abbrev pub IsByte : Request → Type 0
IsByte (Asks.Store addr byte) = byte < 256
IsByte _ = Unit {0}

abbrev pub HasByte : Event → Type 0
HasByte (Ev.Call core request) = IsByte request
HasByte _ = Unit {0}

-- an item that C can write: of 64 cores and bytes below 256
abbrev pub IsSound : BatchItem → Type 0
IsSound (To.Call core request) = (core < 64) × IsByte request
IsSound (To.Finish core) = core < 64
IsSound (To.Step event) = IsCore (core_that_takes event) × HasByte event

-- each event can be written, and is read as it was meant
abbrev pub AllEventsHaveCodes : Type 0
AllEventsHaveCodes =
    (e : Event) → IsCore (core_that_takes e) → HasByte e → event_of (event_code e) ≡ Some e

abbrev pub AllItemsHaveCodes : Type 0
AllItemsHaveCodes = (i : BatchItem) → IsSound i → item_of (item_code i) ≡ Some i

-- ---- what C reads

abbrev pub AllOutcomesDiffer : Type 0
AllOutcomesDiffer = (f g : Finished) → finished_code f ≡ finished_code g → f ≡ g

-- entries of one log
abbrev pub AllEntriesDiffer : Type 0
AllEntriesDiffer =
    (requests : List Request) (d e : Entry) → entry_code requests d ≡ entry_code requests e → d ≡ e

-- the number of taken events is told beside the code of each end
abbrev pub AllEndsDiffer : Type 0
AllEndsDiffer = (r s : Result BatchEnd Refusal) → done_of r ≡ done_of s → r ≡ s

-- ---- what a handle has

abbrev pub AllHeldAreLegal : Type 0
AllHeldAreLegal = (held : AnyMachine) → IsLegal (held_state held).world

-- each answer of its log is of a call whose request is known, so that it is told
abbrev pub AllAnswersHaveRequests : Type 0
AllAnswersHaveRequests = (w : World) → IsLegal w → (place step call core : ℕ) (reply : Reply)
    → IsAnswer w.calls.log place step call core reply → is_some (nth w.calls.requests call) ≡ true
