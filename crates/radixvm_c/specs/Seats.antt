-- A machine that threads share, and what C is told of it
use Rattle.std.specs.Prelude.{◌≡◌, ℕ, ◌-◌, ◌<◌, ◌⊎◌, List, [], ◌∷◌, ◌++◌, length, map, Option, None, Some, Result, Ok, Err}
use Rattle.atomic_table.specs.Seated.{TableId}
use Rattle.vm_base.specs.declared.requests.Request.{Request}
use Rattle.machine_model.specs.declared.event.Outcome.TheVariants.{Full}
use Rattle.machine_model.specs.World.{World}
use Rattle.shared.specs.declared.space.Answer.{Answer}
use Rattle.shared.specs.declared.space.Answer.TheVariants as Tells
use Rattle.shared.specs.declared.space.Passed.{Passed}
use Rattle.shared.specs.declared.space.Passed.TheVariants as Past
use Rattle.shared.specs.declared.space.Calls.{Calls}
use Rattle.shared.specs.declared.space.Calls.TheVariants as Lists
use Rattle.shared.specs.declared.space.ShareFault.{ShareFault}
use Rattle.shared.specs.declared.space.ShareFault.TheVariants as Why
use Rattle.shared.specs.declared.asides.Aside.{Aside}
use Rattle.shared.specs.declared.series.SeriesEnd.{SeriesEnd}
use Rattle.shared.specs.declared.series.SeriesEnd.TheVariants as For
use Rattle.shared.specs.Cores.{CoreView, Answers, AnswersAll, Agrees, IsBeside, IsKept, Passes, new_core, split_core, told_of}
use Rattle.coded.specs.declared.codes.RawEvent.{RawEvent}
use Rattle.coded.specs.declared.codes.RawOutcome.{RawOutcome}
use Rattle.coded.specs.declared.held.AnyMachine.{AnyMachine}
use Rattle.radixvm_c.specs.declared.placed.Placed.{Placed}
use Rattle.radixvm_c.specs.declared.chair.Chair.{Chair}
use Rattle.radixvm_c.specs.declared.chair.HeldSeat.{HeldSeat}
use Rattle.radixvm_c.specs.declared.chair.Chair.TheVariants.{Vacant, Taken}
use Rattle.radixvm_c.specs.declared.sharing.Closed.{Closed}
use Rattle.radixvm_c.specs.declared.sharing.Closed.TheVariants as Comes
use Rattle.coded.specs.declared.batch.Done.{Done}
use Rattle.coded.specs.declared.opening.Refusal.{Refusal}
use Rattle.coded.specs.Asked.{aside_of, asked_of}
use Rattle.coded.specs.Batches.{refusal_done, refusal_of}
use Rattle.coded.specs.Codes.{reply_code, outcome_code}
use Rattle.coded.specs.Holding.{held_state, empty_code, empty_done, absent_code}

-- ---- seats

-- what a seat knows, as clauses see it
abbrev pub View : Type 0
View = CoreView Placed

abbrev pub placed_state : Placed → World
placed_state placed = (held_state placed.held.value).world

-- the seat of a place, and of a handle
abbrev pub core_on : Chair → Option View
core_on Vacant = None
core_on (Taken seat) = Some seat.core

abbrev pub core_in : Option Chair → Option View
core_in None = None
core_in (Some chair) = core_on chair

-- ---- statuses

abbrev pub no_memory_code : ℕ
no_memory_code = 2

abbrev pub in_use_code : ℕ
in_use_code = 8

abbrev pub busy_code : ℕ
busy_code = 17

abbrev pub in_flight_code : ℕ
in_flight_code = 18

abbrev pub lost_code : ℕ
lost_code = 19

abbrev pub limit_code : ℕ
limit_code = 20

-- ---- sharing

-- no memory, or a core has a call that isn't at its end
abbrev pub CannotShare : AnyMachine → ℕ → Type 0
CannotShare held status = (status ≡ no_memory_code)
    ⊎ ((status ≡ in_flight_code) × IsKept Why.NotCalm (held_state held).world)

abbrev pub unshared_code : ShareFault → ℕ
unshared_code Why.NoMemory = no_memory_code
unshared_code Why.NotCalm = in_flight_code

-- core 0 of this machine, which made no call since it was shared, and may split off all others
abbrev pub IsFirst : AnyMachine → View → Type 0
IsFirst held v = (placed : Placed) × (space : TableId) × (placed.held.value ≡ held)
    × (v ≡ new_core placed_state space 0 ((held_state held).world.made.cores - 1) (placed ∷ []))

abbrev pub HasFirst : AnyMachine → Option View → Type 0
HasFirst held None = ⊥
HasFirst held (Some v) = IsFirst held v

-- the machine went into the seat; or all is as it was, since there is no machine, or a seat already, or
-- it can't be shared
abbrev pub TellsShare : Option AnyMachine → Option Chair → ℕ → Option AnyMachine → Option Chair → Type 0
TellsShare None chair status held' chair' =
    (status ≡ empty_code) × (held' ≡ None) × (chair' ≡ chair)
TellsShare (Some held) (Some chair) status held' chair' =
    (status ≡ in_use_code) × (held' ≡ Some held) × (chair' ≡ Some chair)
TellsShare (Some held) None status held' chair' =
    ((status ≡ 0) × (held' ≡ None) × HasFirst held (core_in chair'))
    ⊎ (CannotShare held status × (held' ≡ Some held) × (chair' ≡ None))

-- ---- one more seat

-- the last core that had no seat yet, which made no call since the machine was shared, and knows what this one knows
abbrev pub IsSplit : View → View → View → Type 0
IsSplit v other w = (0 < v.spare) × (w ≡ record v { spare = v.spare - 1 })
    × (other ≡ split_core placed_state v)

-- no memory, or all cores have a seat
abbrev pub CannotSplit : View → ℕ → Type 0
CannotSplit v status = (status ≡ no_memory_code) ⊎ ((status ≡ absent_code) × (v.spare ≡ 0))

abbrev pub SplitsSeat : View → Result HeldSeat ℕ → View → Type 0
SplitsSeat v (Ok seat) w = IsSplit v seat.core w
SplitsSeat v (Err status) w = CannotSplit v status × (w ≡ v)

abbrev pub SplitsChair : Option View → Result HeldSeat ℕ → Option View → Type 0
SplitsChair None r w = (r ≡ Err empty_code) × (w ≡ None)
SplitsChair (Some v) r None = ⊥
SplitsChair (Some v) r (Some w) = SplitsSeat v r w

abbrev pub SplitsTo : View → Option View → Option View → Type 0
SplitsTo v (Some w) (Some other) = IsSplit v other w
SplitsTo v w other = ⊥

-- a core was split off; or all is as it was
abbrev pub TellsSplit : Option View → Option Chair → ℕ → Option View → Option Chair → Type 0
TellsSplit None other status w other' = (status ≡ empty_code) × (w ≡ None) × (other' ≡ other)
TellsSplit (Some v) (Some chair) status w other' =
    (status ≡ in_use_code) × (w ≡ Some v) × (other' ≡ Some chair)
TellsSplit (Some v) None status w other' =
    ((status ≡ 0) × SplitsTo v w (core_in other'))
    ⊎ (CannotSplit v status × (w ≡ Some v) × (other' ≡ None))

-- ---- a call

-- the reply is told, or that a limit is reached; or that another core was in a call
abbrev pub TellsAnswer : Answer → RawOutcome → ℕ → RawOutcome → Type 0
TellsAnswer (Tells.Reply reply) was status told = (status ≡ 0) × (told ≡ reply_code reply)
TellsAnswer Tells.Full was status told = (status ≡ 0) × (told ≡ outcome_code Full)
TellsAnswer Tells.Busy was status told = (status ≡ busy_code) × (told ≡ was)

-- what a step beside calls came to is told; or that another core was in a call
abbrev pub TellsPassed : Passed → RawOutcome → ℕ → RawOutcome → Type 0
TellsPassed (Past.Came outcome) was status told = (status ≡ 0) × (told ≡ outcome_code outcome)
TellsPassed Past.Busy was status told = (status ≡ busy_code) × (told ≡ was)

-- the event is nothing that a seat does, and nothing changes; or it is a step of this core
abbrev pub PassesOn : View → Option Aside → RawOutcome → ℕ → RawOutcome → View → Type 0
PassesOn v None was status told w = (status ≡ 1) × (told ≡ was) × (w ≡ v)
PassesOn v (Some aside) was status told w = (passed : Passed)
    × Passes placed_state v aside passed w × TellsPassed passed was status told

-- it is a call of this core, whose answer is told; or no call
abbrev pub Tries : View → Option Request → Option Aside → RawOutcome → ℕ → RawOutcome → View → Type 0
Tries v None aside was status told w = PassesOn v aside was status told w
Tries v (Some request) aside was status told w = (answer : Answer)
    × Answers placed_state v request answer w × TellsAnswer answer was status told

abbrev pub TriesOn : View → RawEvent → RawOutcome → ℕ → RawOutcome → View → Type 0
TriesOn v raw was status told w = Tries v (asked_of raw) (aside_of raw) was status told w

-- what C reads of a call of a seat, or of a step beside calls
abbrev pub TellsTry : Option View → RawEvent → RawOutcome → ℕ → RawOutcome → Option View → Type 0
TellsTry None raw was status told w = (status ≡ empty_code) × (told ≡ was) × (w ≡ None)
TellsTry (Some v) raw was status told None = ⊥
TellsTry (Some v) raw was status told (Some w) = TriesOn v raw was status told w

-- ---- many calls

abbrev pub stop_status : SeriesEnd → ℕ
stop_status For.Done = 0
stop_status For.NoCall = 1
stop_status For.NoMemory = no_memory_code
stop_status For.Refused = limit_code
stop_status For.Spent = limit_code

-- the status and the count that C reads
abbrev pub calls_done : Calls → Done
calls_done (Lists.Made series) = record { status = stop_status series.stop; count = series.made }
calls_done Lists.Busy = record { status = busy_code; count = 0 }

-- the lengths are refused, and nothing changes; or the calls of this core are made, as far as they can be
abbrev pub CallsWithin : View → List RawEvent → List RawOutcome → Option Refusal → Done → List RawOutcome → View → Type 0
CallsWithin v raws was (Some refusal) done told w = (done ≡ refusal_done refusal) × (told ≡ was) × (w ≡ v)
CallsWithin v raws was None done told w = (calls : Calls)
    × AnswersAll placed_state v (map asked_of raws) reply_code was calls told w × (done ≡ calls_done calls)

abbrev pub CallsOn : View → List RawEvent → List RawOutcome → Done → List RawOutcome → View → Type 0
CallsOn v raws was done told w = CallsWithin v raws was (refusal_of 0 0 (length raws) (length was)) done told w

-- what C reads of many calls of a seat
abbrev pub TellsCalls : Option View → List RawEvent → List RawOutcome → Done → List RawOutcome → Option View → Type 0
TellsCalls None raws was done told w = (done ≡ empty_done) × (told ≡ was) × (w ≡ None)
TellsCalls (Some v) raws was done told None = ⊥
TellsCalls (Some v) raws was done told (Some w) = CallsOn v raws was done told w

-- ---- a seat that is done

-- where there are both, they are of one space
abbrev pub AreBeside : Option View → Option View → Type 0
AreBeside (Some v) (Some other) = other.space ≡ v.space
AreBeside v other = Unit {0}

-- the first knows what the other knew, and whom that one took in
abbrev pub TakesIn : Option View → Option View → Option View → Type 0
TakesIn (Some v) (Some other) w = w ≡ Some (record v { others = v.others ++ told_of other ∷ other.others })
TakesIn v other w = w ≡ v

-- the other core was taken in, and its handle is empty; or one has no seat, and all is as it was
abbrev pub TellsReturn : Option View → Option View → ℕ → Option View → Option Chair → Type 0
TellsReturn (Some v) (Some other) status w other' =
    (status ≡ 0) × TakesIn (Some v) (Some other) w × (other' ≡ None)
TellsReturn v other status w other' = (status ≡ empty_code) × (w ≡ v) × (core_in other' ≡ other)

-- ---- the end

-- The machine comes back. Its log is that of a plain page map (POSIX.1-2017, mmap, munmap and
-- mprotect), and has of this core, and of each that it took in, just the calls that it made, in order,
-- with the replies that it got. Or it is gone: only where a core has a seat that this one didn't take in
abbrev pub Closes : View → Closed → Type 0
Closes v (Comes.Back held) = Agrees placed_state (record { held = held }) v
Closes v Comes.Beside = ⊥
Closes v Comes.Gone = IsBeside placed_state v

abbrev pub ClosesChair : Option View → Closed → Option View → Type 0
ClosesChair (Some v) Comes.Beside w = w ≡ Some v
ClosesChair (Some v) closed w = Closes v closed × (w ≡ None)
ClosesChair None closed w = (closed ≡ Comes.Beside) × (w ≡ None)

-- the handle has a machine that agrees with all that the seat knew
abbrev pub HasBack : View → Option AnyMachine → Type 0
HasBack v None = ⊥
HasBack v (Some held) = (placed : Placed) × (placed.held.value ≡ held) × Agrees placed_state placed v

-- the machine came back, and the seat's handle is empty; or it is gone, only where a core has a seat that wasn't
-- taken in; or another seat is left, or a handle is in use or empty, and all is as it was
abbrev pub TellsUnshare : Option View → Option AnyMachine → ℕ → Option Chair → Option AnyMachine → Type 0
TellsUnshare None held status chair' held' =
    (status ≡ empty_code) × (core_in chair' ≡ None) × (held' ≡ held)
TellsUnshare (Some v) (Some held) status chair' held' =
    (status ≡ in_use_code) × (core_in chair' ≡ Some v) × (held' ≡ Some held)
TellsUnshare (Some v) None status chair' held' =
    ((status ≡ 0) × (chair' ≡ None) × HasBack v held')
    ⊎ ((status ≡ lost_code) × (chair' ≡ None) × (held' ≡ None) × IsBeside placed_state v)
    ⊎ ((status ≡ in_use_code) × (core_in chair' ≡ Some v) × (held' ≡ None))
