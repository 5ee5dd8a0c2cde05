-- What a core does of a script on a machine that others share
use Rattle.std.specs.Prelude.{◌≡◌, ◌≢◌, ℕ, ◌⊎◌, List, [], ◌∷◌, ◌++◌, map, Option}
use Rattle.vm_base.specs.declared.requests.Request.{Request}
use Rattle.vm_base.specs.declared.replies.Reply.{Reply}
use Rattle.trace_words.specs.declared.script.Task.{Task}
use Rattle.trace_words.specs.declared.script.Task.TheVariants.{Call, Flush, Review}
use Rattle.machine_model.specs.World.{World}
use Rattle.machine_model.specs.declared.event.Outcome.{Outcome}
use Rattle.machine_model.specs.declared.event.Outcome.TheVariants.{Full}
use Rattle.shared.specs.Cores.{CoreView}
use Rattle.shared.specs.Turns.{AreInOrder, Leads, left_by}
use Rattle.shared.specs.Histories.{Adds, IsFull, IsOver, StepsAside, event_of, history_of, logged, replied}
use Rattle.trace_words.specs.declared.fault.TraceFault.TheVariants.{NoMemory}
use Rattle.shared_script.specs.declared.fault.SharedFault.{SharedFault}
use Rattle.shared_script.specs.declared.fault.SharedFault.TheVariants.{Text}
use Rattle.shared_script.specs.declared.fault.SharedFault.TheVariants as Stopped
use Rattle.shared.specs.declared.asides.Aside.TheVariants as Does
use Rattle.shared.specs.declared.history.Turn.{Turn}
use Rattle.shared.specs.declared.history.Replied.{Replied}

-- the calls among the tasks, in order
abbrev pub calls_of : List Task → List Request
calls_of [] = []
calls_of (Call request ∷ tasks) = request ∷ calls_of tasks
calls_of (Flush ∷ tasks) = calls_of tasks
calls_of (Review ∷ tasks) = calls_of tasks

-- what was asked in these calls
abbrev pub asked_in : List Replied → List Request
asked_in told = map (λ call. call.request) told

-- The core made these calls, in order. What it knows of its own calls grew by them, each with the reply that it was told, and
-- so did the list that is kept of them.
pub record IsMade {S : Type 0} (v : CoreView S) (before : List Replied) (calls : List Request) (w : CoreView S) (after : List Replied) : Type 0 where
  pub told : List Replied
  pub asked : asked_in told ≡ calls
  pub kept : after ≡ before ++ told
  pub mine : w.mine ≡ v.mine ++ told
  pub same : w ≡ record v { turns = w.turns; mine = w.mine }

-- the core did this task, which took the machine from x to y
abbrev pub IsTask : World → ℕ → Task → World → Type 0
IsTask x core (Call request) y = (reply : Reply) × Adds core (replied request reply ∷ []) (history_of x) (history_of y)
IsTask x core Flush y = (outcome : Outcome) × (outcome ≢ Full) × StepsAside x (event_of core Does.Flush) outcome y
IsTask x core Review y = (outcome : Outcome) × (outcome ≢ Full) × StepsAside x (event_of core Does.Review) outcome y

-- The core can't do this task with the machine x: it is at its limit of events; or, for a call, it came to a limit in the core's turn, that of
-- calls or that of events, since when a reply of this call alone may be in the log.
abbrev pub IsTooFull : World → ℕ → Task → Type 0
IsTooFull x core (Call request) = IsOver x
    ⊎ ((y : World) × Leads (λ w. w) x core y × ((reply : Option Reply) × Adds core (logged request reply) (history_of x) (history_of y)) × IsFull y)
IsTooFull x core Flush = IsOver x
IsTooFull x core Review = IsOver x

module _ {S : Type 0} (state : S → World) where
  -- of these turns, those of the core did just these tasks, one a turn, in order
  abbrev pub DidTasks : ℕ → List S → List (Turn S) → List Task → Type 0
  DidTasks core first [] tasks = tasks ≡ []
  DidTasks core [] (t ∷ ts) tasks = ⊥
  DidTasks core (x ∷ xs) (t ∷ ts) tasks =
      ((t.core ≡ core) × (task : Task) × (rest : List Task) × (tasks ≡ task ∷ rest)
      × IsTask (state x) core task (state t.machine) × DidTasks core (t.machine ∷ []) ts rest)
      ⊎ ((t.core ≢ core) × DidTasks core (t.machine ∷ []) ts tasks)

  -- the turns are in order, and those of the core did just these tasks
  pub record HasDone (core : ℕ) (first : List S) (turns : List (Turn S)) (tasks : List Task) : Type 0 where
    pub order : AreInOrder state first turns
    pub did : DidTasks core first turns tasks

  -- the core did the tasks before one, for which the machine was too full
  pub record FindsFull (core : ℕ) (first : List S) (tasks : List Task) : Type 0 where
    pub done : List Task
    pub next : Task
    pub rest : List Task
    pub are : tasks ≡ done ++ next ∷ rest
    pub turns : List (Turn S)
    pub does : HasDone core first turns done
    pub machine : S
    pub left : left_by first turns ≡ machine ∷ []
    pub full : IsTooFull (state machine) core next

  -- the core did these tasks too, after those that it had done
  abbrev pub DoesTasks : CoreView S → List Task → CoreView S → Type 0
  DoesTasks v tasks w = (done : List Task) → HasDone v.core v.first v.turns done → HasDone v.core v.first w.turns (done ++ tasks)

  -- why it stopped at one of them: memory was wanting, or the machine was too full for it
  abbrev pub StopsAt : CoreView S → List Task → SharedFault → Type 0
  StopsAt v tasks (Text NoMemory) = Unit {0}
  StopsAt v tasks Stopped.Full = (done : List Task) → HasDone v.core v.first v.turns done → FindsFull v.core v.first (done ++ tasks)
  StopsAt v tasks _ = ⊥
