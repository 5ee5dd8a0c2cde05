-- What can come out of calls behind an opening
use Rattle.std.specs.Prelude.{◌≡◌, ℕ, Bool, true, List, [], ◌∷◌, ◌++◌, replicate, slice_get, Some, Vec}
use Rattle.vm_base.specs.declared.replies.Reply.{Reply}
use Rattle.vm_base.specs.Plain.{Plain}
use Rattle.slot_lock.specs.declared.map_list.MapLine.{MapLine}
use Rattle.slot_lock.specs.Slots.{Slots, IsNew}
use Rattle.machine_model.specs.declared.event.Event.{Event}
use Rattle.machine_model.specs.declared.event.Event.TheVariants.{Call, Go}
use Rattle.machine_model.specs.declared.event.Outcome.{Outcome as Result}
use Rattle.machine_model.specs.declared.phase.Phase.TheVariants.{Free}
use Rattle.machine_model.specs.World.{World, Made, new_world}
use Rattle.machine_model.specs.Step.{Run}
use Rattle.machine_model.specs.Log.{LeadsTo}
use Rattle.litmus_merges.specs.declared.asked.Asked.{Asked}
use Rattle.litmus_merges.specs.Finals.{loads_by}
use Rattle.litmus_merges.specs.Mappings.{AreMaps}
use Rattle.litmus_outcomes.specs.Performed.{ArePlain, PerformsScript}
use Rattle.litmus_outcomes.specs.declared.outcome.Opened.{Opened}
use Rattle.litmus_outcomes.specs.declared.outcome.Opened.TheVariants as Line
use Rattle.litmus_outcomes.specs.declared.outcome.LitmusOutcome.{LitmusOutcome}
use Rattle.litmus_outcomes.specs.declared.outcome.Outcomes.{Outcomes}

-- the events of a line: a call is followed by steps of its core
abbrev pub IsLine : Opened → List Event → Type 0
IsLine (Line.Step event) es = es ≡ event ∷ []
IsLine (Line.Whole core request) es = (n : ℕ) × (es ≡ Call core request ∷ replicate n (Go core))
IsLine (Line.Finish core) es = (n : ℕ) × (es ≡ replicate n (Go core))

-- of all lines, in order
abbrev pub AreLines : List Opened → List Event → Type 0
AreLines [] es = es ≡ []
AreLines (line ∷ lines) es = (first rest : List Event) × IsLine line first × AreLines lines rest × (es ≡ first ++ rest)

-- A run of the opening's events leads from a new machine to this state. No core has a call there, and the log leads to
-- the plain page map t.
pub record IsOpened (made : Made) (opening : List Event) (t : Plain) (w : World) : Type 0 where
  pub slots : Slots
  pub new : IsNew slots
  pub results : List Result
  pub run : Run (new_world made slots) opening results w
  pub free : (c : ℕ) → w.calls.phase c ≡ Free
  pub log : LeadsTo w t

-- these events lead from one state to another, and perform the calls with these replies
pub record Performs (calls : List Asked) (replies : List Reply) (w : World) (events : List Event) (v : World) : Type 0 where
  pub results : List Result
  pub run : Run w events results v
  pub says : PerformsScript calls replies events results

-- the map to which the state's log leads has these mappings, in order, where they are asked for; and else there are none
abbrev pub HasMaps : Bool → World → List MapLine → Type 0
HasMaps maps w lines = (u : Plain) → LeadsTo w u → AreMaps maps u lines

-- From such a state the first of these events perform the calls with these replies, and then the others loads with the
-- finals; and in the end these are the mappings.
pub record IsWitness (made : Made) (opening : List Event) (t : Plain) (calls loads : List Asked) (maps : Bool)
    (replies finals : List Reply) (lines : List MapLine) (events : List Event) : Type 0 where
  pub before : World
  pub mid : World
  pub after : World
  pub first : List Event
  pub later : List Event
  pub are : events ≡ first ++ later
  pub opened : IsOpened made opening t before
  pub performs : Performs calls replies before first mid
  pub shows : Performs loads finals mid later after
  pub mapped : HasMaps maps after lines

-- some outcome has these replies, finals and mappings
abbrev pub Has : {A : Type 0} → List (LitmusOutcome A) → List Reply → List Reply → List MapLine → Type 0
Has {A} list replies finals lines = (k : ℕ) × (it : LitmusOutcome A) × (slice_get list k ≡ Some it) × (it.replies.items ≡ replies)
    × (it.finals.items ≡ finals) × (it.maps.items ≡ lines)

-- Each outcome with a witness is reached. Where nothing else can come out, each list of events that performs the calls,
-- with whatever walks, evictions, takes, flushes, reviews and folds, has the replies of one of the outcomes, what a core
-- then loads from the addresses are its finals, and the mappings then, where they are asked for, are its mappings, unless one
-- of the replies or finals is "no frame" or "no memory". No two outcomes are the same.
pub record AreOutcomes {A : Type 0} (made : Made) (calls : List Asked) (addrs : List ℕ) (maps : Bool) (it : Outcomes A) : Type 0
  where
    pub map : Plain
    pub state : World
    pub opened : IsOpened made it.opening.items map state
    pub reached : (k : ℕ) (one : LitmusOutcome A) (events : Vec Event A) → slice_get it.list.items k ≡ Some one
        → one.witness ≡ Some events → IsWitness made it.opening.items map calls (loads_by 0 addrs) maps one.replies.items
        one.finals.items one.maps.items events.items
    pub all : it.whole ≡ true → (w v x : World) (events later : List Event) (replies finals : List Reply) (lines : List MapLine)
        (core : ℕ) → IsOpened made it.opening.items map w → Performs calls replies w events v → ArePlain replies
        → Performs (loads_by core addrs) finals v later x → ArePlain finals → HasMaps maps x lines
        → Has it.list.items replies finals lines
    pub once : (j k : ℕ) (one other : LitmusOutcome A) → slice_get it.list.items j ≡ Some one
        → slice_get it.list.items k ≡ Some other → one.replies.items ≡ other.replies.items
        → one.finals.items ≡ other.finals.items → one.maps.items ≡ other.maps.items → j ≡ k
