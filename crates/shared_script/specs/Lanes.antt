-- The cores while a script is run, from the last to the first
use Rattle.std.specs.Prelude.{◌≡◌, ℕ, suc, ◌-◌, ◌<◌, ◌≤◌, List, [], ◌∷◌, length, get_or, Option, None, Some, IfNone, IfSome}
use Rattle.atomic_table.specs.Seated.{TableId}
use Rattle.machine_model.specs.World.{World}
use Rattle.trace_words.specs.declared.script.Task.{Task}
use Rattle.shared.specs.Cores.{new_core}
use Rattle.shared_script.specs.Tasks.{DoesTasks, HasDone, IsMade, StopsAt, asked_in, calls_of}
use Rattle.shared_script.specs.declared.fault.SharedFault.{SharedFault}
use Rattle.shared_script.specs.declared.lane.Lane.{Lane}

module _ {S : Type 0} where
  -- this core made no call yet
  pub record IsFresh (state : S → World) (space : TableId) (first : List S) (core : ℕ) (lane : Lane S) : Type 0 where
    pub number : lane.number ≡ core
    pub core_is : lane.core ≡ new_core state space core 0 first
    pub told : lane.told.items ≡ []

  -- this core did its tasks, in order, and what is kept of its calls is what it knows
  pub record IsDone (state : S → World) (tasks : List (List Task)) (space : TableId) (first : List S) (core : ℕ) (lane : Lane S) : Type 0 where
    pub core_is : lane.core.core ≡ core
    pub space_is : lane.core.space ≡ space
    pub first_is : lane.core.first ≡ first
    pub others : lane.core.others ≡ []
    pub asked : asked_in lane.told.items ≡ calls_of (get_or tasks core [])
    pub mine : lane.core.mine ≡ lane.told.items
    pub did : HasDone state core first lane.core.turns (get_or tasks core [])

  -- so many cores and core 0
  pub record AreCores (left : ℕ) (Is : ℕ → Lane S → Type 0) (lanes : List (Lane S)) : Type 0 where
    pub count : length lanes ≡ suc left
    pub each : (at : ℕ) (d : Lane S) → at ≤ left → Is (left - at) (get_or lanes at d)

  -- all are of this space
  abbrev pub AreOfSpace : TableId → List (Lane S) → Type 0
  AreOfSpace space lanes = (at : ℕ) (d : Lane S) → at < length lanes → (get_or lanes at d).core.space ≡ space

  -- a core did its tasks, or stopped
  pub record EndsAs (state : S → World) (tasks : List (List Task)) (before after : Lane S) : Type 0 where
    pub number : after.number ≡ before.number
    pub made : IfNone after.stop
        (IsMade before.core before.told.items (calls_of (get_or tasks before.number [])) after.core after.told.items)
    pub did : IfNone after.stop (DoesTasks state before.core (get_or tasks before.number []) after.core)
    pub stops : IfSome after.stop (StopsAt state before.core (get_or tasks before.number []))

  -- each did so
  pub record EndEach (state : S → World) (tasks : List (List Task)) (before after : List (Lane S)) : Type 0 where
    pub count : length after ≡ length before
    pub each : (at : ℕ) (d e : Lane S) → at < length before → EndsAs state tasks (get_or before at d) (get_or after at e)

-- the last of these that stands somewhere, or the one before them
abbrev pub last_stop : Option SharedFault → List (Option SharedFault) → Option SharedFault
last_stop last [] = last
last_stop last (None ∷ stops) = last_stop last stops
last_stop last (Some stop ∷ stops) = last_stop (Some stop) stops
