-- The turns that cores had with a machine, in one order
use Rattle.std.specs.Prelude.{◌≡◌, ◌≢◌, ℕ, List, [], ◌∷◌, ◌++◌}
use Rattle.machine_model.specs.World.{World}
use Rattle.core_steps.specs.Machine.{IsLegal}
use Rattle.shared.specs.declared.history.SeenLog.{SeenLog}
use Rattle.shared.specs.declared.history.Replied.{Replied}
use Rattle.shared.specs.declared.history.Turn.{Turn}
use Rattle.shared.specs.declared.history.JoinedCore.{JoinedCore}
use Rattle.shared.specs.Histories.{Adds, history_of, replied_by}

module _ {S : Type 0} where
  abbrev pub turn : ℕ → S → Turn S
  turn core machine = record { core = core; machine = machine }

  -- the machine as the last turn left it; before the first it is as it was shared
  abbrev pub left_by : List S → List (Turn S) → List S
  left_by first [] = first
  left_by first (t ∷ ts) = left_by (t.machine ∷ []) ts

  -- none of the turns is this core's
  abbrev pub NoneOf : ℕ → List (Turn S) → Type 0
  NoneOf core [] = Unit {0}
  NoneOf core (t ∷ ts) = (t.core ≢ core) × NoneOf core ts

  -- the turns that the core knows are the first ones, and all of its own are among them
  pub record HasSeen (core : ℕ) (known turns : List (Turn S)) : Type 0 where
    pub rest : List (Turn S)
    pub goes : turns ≡ known ++ rest
    pub others : NoneOf core rest

module _ {S : Type 0} (state : S → World) where
  -- the log of the machine, when it was shared or as a turn left it
  abbrev pub log_in : List S → SeenLog
  log_in [] = record { requests = []; entries = [] }
  log_in (x ∷ xs) = history_of (state x)

  -- A turn of this core leads from x to y: the same machine, in a legal state. The log goes on, and no other core is replied to.
  pub record Leads (x : World) (core : ℕ) (y : World) : Type 0 where
    pub legal : IsLegal y
    pub made : y.made ≡ x.made
    pub adds : (added : List Replied) × Adds core added (history_of x) (history_of y)

  -- each turn begins where the one before it ended
  abbrev pub AreInOrder : List S → List (Turn S) → Type 0
  AreInOrder first [] = Unit {0}
  AreInOrder [] (t ∷ ts) = ⊥
  AreInOrder (x ∷ xs) (t ∷ ts) = Leads (state x) t.core (state t.machine) × AreInOrder (t.machine ∷ []) ts

  -- of these turns the core knows the first ones, among them all of its own, and its calls in the log are those that it made
  pub record IsTold (first : List S) (turns : List (Turn S)) (t : JoinedCore S) : Type 0 where
    pub seen : HasSeen t.core t.turns turns
    pub mine : replied_by t.core (log_in (left_by first turns)) ≡ t.mine
