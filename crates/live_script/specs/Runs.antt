-- What running a script comes to
use Rattle.std.specs.Prelude.{◌≡◌, ℕ, ◌<◌, ◌/◌, ◌⊎◌, List, [], ◌∷◌, length, get_or, Option, None, Some}
use Rattle.frames.specs.Files.{files_of}
use Rattle.machine_model.specs.declared.setup.SetupFault.TheVariants as Wrong
use Rattle.seats.specs.Notes.{SeatView}
use Rattle.live_space.specs.Space.{AreFresh, IsFresh, LiveView}
use Rattle.live_space.specs.declared.fault.LiveFault.{LiveFault}
use Rattle.trace_words.specs.Declarations.{DeclarationView, asked_fault, file_at}
use Rattle.trace_words.specs.Scripts.{Scripted}
use Rattle.trace_words.specs.declared.script.Task.{Task}
use Rattle.live_script.specs.declared.fault.ScriptFault.{ScriptFault}
use Rattle.live_script.specs.declared.fault.ScriptFault.TheVariants.{Setup, Live, NoMemory}
use Rattle.live_script.specs.declared.lane.Lane.{Lane}
use Rattle.live_script.specs.Tasks.{DoesAll, EndsAs, Stops}

-- a space, and its seats in order of cores
pub record RanView : Type 0 where
  pub live : LiveView
  pub seats : List SeatView

-- the space is as it was declared, and each seat may begin an even share of the calls
pub record IsDeclared (asked : DeclarationView) (l : LiveView) : Type 0 where
  pub sound : asked_fault asked ≡ None
  pub cores : l.cores ≡ asked.cores
  pub frames : l.frames ≡ asked.frames
  pub file : files_of l.files ≡ file_at asked.files
  pub share : l.share ≡ asked.calls / asked.cores

-- ---- where all tasks were done

-- the seat began with nothing noted, and did all that its core is to do
pub record HasDone (l : LiveView) (script : Scripted) (core : ℕ) (t : SeatView) : Type 0 where
  pub first : SeatView
  pub fresh : IsFresh l.word core first
  pub does : DoesAll l first (get_or script.tasks core []) t

-- in the declared space each core's seat did all
pub record RunsAll (script : Scripted) (l : LiveView) (seats : List SeatView) : Type 0 where
  pub declared : IsDeclared script.asked l
  pub count : length seats ≡ script.asked.cores
  pub each : (core : ℕ) (d : SeatView) → core < script.asked.cores → HasDone l script core (get_or seats core d)

-- ---- where not

-- the seat began with nothing noted, and stopped before a task of its core
pub record HasStopped (l : LiveView) (script : Scripted) (core : ℕ) (fault : LiveFault) : Type 0 where
  pub first : SeatView
  pub fresh : IsFresh l.word core first
  pub last : SeatView
  pub stops : Stops l first (get_or script.tasks core []) fault last

-- in the declared space this core stopped, and all cores before it did all
pub record IsLeastStop (script : Scripted) (fault : LiveFault) : Type 0 where
  pub live : LiveView
  pub declared : IsDeclared script.asked live
  pub core : ℕ
  pub within : core < script.asked.cores
  pub stopped : HasStopped live script core fault
  pub below : (k : ℕ) → k < core → (t : SeatView) × HasDone live script k t

-- what each fault says of the script
abbrev pub Fails : Scripted → ScriptFault → Type 0
Fails script (Setup fault) =
    (asked_fault script.asked ≡ Some fault) ⊎ ((asked_fault script.asked ≡ None) × (fault ≡ Wrong.NoMemory))
Fails script (Live fault) = IsLeastStop script fault
Fails script NoMemory = asked_fault script.asked ≡ None

-- ---- on the way

-- the declared space, with its fresh seats
pub record IsBegun (asked : DeclarationView) (l : LiveView) (seats : List SeatView) : Type 0 where
  pub declared : IsDeclared asked l
  pub fresh : AreFresh l.word asked.cores seats

-- each lane did what its core is to do, or stopped
pub record EndEach {A : Type 0} (live : LiveView) (tasks : List (List Task)) (before after : List (Lane A)) : Type 0 where
  pub count : length after ≡ length before
  pub each : (k : ℕ) (d e : Lane A) → k < length before
      → EndsAs live (get_or before k d).seat (get_or tasks k []) (get_or after k e).seat (get_or after k e).fault

-- the first of these faults
abbrev pub first_fault : List (Option LiveFault) → Option LiveFault
first_fault [] = None
first_fault (None ∷ faults) = first_fault faults
first_fault (Some fault ∷ faults) = Some fault
