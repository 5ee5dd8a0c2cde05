-- What one who watches a replay is at its end: the lines ask for events, and each step in turn makes
-- of them what it does
use Rattle.std.specs.Prelude.{◌≡◌, ℕ, List, [], ◌∷◌, ◌++◌, Option, None, Some}
use Rattle.std.specs.Io.KnownBytes.{Appends}
use Rattle.machine_model.specs.declared.event.Event.{Event}
use Rattle.machine_model.specs.declared.event.Outcome.{Outcome}
use Rattle.machine_model.specs.World.{World}
use Rattle.trace_io.specs.Lines.{lines_of}
use Rattle.trace_text.specs.declared.line.Line.{Line}
use Rattle.watched.specs.Watching.{Watches}
use Rattle.trace_words.specs.declared.show.Show.{Show}
use Rattle.trace_words.specs.Declarations.{DeclarationView}
use Rattle.trace.specs.EventRuns.{Asks, AllAsk}
use Rattle.trace.specs.Stage.{Stage, Start, Declared, Running, CanOpen, Opens, new_machine}
use Rattle.trace.specs.Shown.{IsBehind, told}
use Rattle.trace.specs.Turns.{Advances, Scene}

-- ---- lines

-- the events that are asked for, whose text this is, are watched
abbrev pub Sees : {S : Type 0} → (S → World → Event → Outcome → World → S → Type 0) → S → World
    → (List Event → List Outcome → List ℕ → Type 0) → World → S → List ℕ → Type 0
Sees after one w Wanted v other text =
    (es : List Event) × (os : List Outcome) × Wanted es os text × Watches after one w es os v other

-- those that a line of an event asks for, of the machine that it finds
abbrev pub SeesEvent : {S : Type 0} → (S → World → Event → Outcome → World → S → Type 0) → Stage → S → Line
    → Stage → S → List ℕ → Type 0
SeesEvent after old one line new other text =
    (w : World) × (v : World) × Opens old w × (new ≡ Running v) × Sees after one w (Asks line) v other text

-- up to this stage these events came; up to the machine none did
abbrev pub Leads : {S : Type 0} → (S → World → Event → Outcome → World → S → Type 0) → S → Stage
    → List Event → List Outcome → S → Type 0
Leads after one (Start limit) es os other = (es ≡ []) × (os ≡ []) × (other ≡ one)
Leads after one (Declared limit a) es os other = (es ≡ []) × (os ≡ []) × (other ≡ one)
Leads after one (Running w) es os other =
    (asked : DeclarationView) × Watches after one (new_machine asked) es os w other

-- the lines ask for the events that came up to this stage, and this is their text
abbrev pub SeesAll : {S : Type 0} → (S → World → Event → Outcome → World → S → Type 0) → S → Stage
    → List (List ℕ) → List ℕ → S → Type 0
SeesAll after one stage lines text other =
    (es : List Event) × (os : List Outcome) × AllAsk lines es os text × Leads after one stage es os other

-- ---- a replay

-- what was seen from the first state on grows by a line and its text
abbrev pub Grows : {R : Type 0} → (R → R → List (List ℕ) → List ℕ → Type 0) → R → List ℕ → R
    → List ℕ → Type 0
Grows {R} saw old line new text = (first : R) (lines : List (List ℕ)) (before : List ℕ)
    → saw first old lines before → saw first new (lines ++ line ∷ []) (before ++ text)

-- a line was acted on and seen
abbrev pub AdvancesSeen : {R : Type 0} → (R → R → List (List ℕ) → List ℕ → Type 0) → (List ℕ → List ℕ → List ℕ) → R → R
    → Scene → Scene → Type 0
AdvancesSeen saw shown r q old new = (a : Advances shown old new) × Grows saw r a.line q a.text

-- of all lines and their text this holds, and the text was written, with what comes behind it
pub record Writes (Holds : List (List ℕ) → List ℕ → Type 0) (stage : Stage) (show : Show)
    (input : List ℕ) (old new : Option (List ℕ)) : Type 0 where
  pub text : List ℕ
  pub behind : List ℕ
  pub holds : Holds (lines_of input) text
  pub opens : CanOpen stage
  pub is : IsBehind show stage behind
  pub appends : Appends old new (told show text ++ behind)

-- all lines were acted on, and so one who was this before them is that behind them
abbrev pub IsSeen : {S : Type 0} → (S → World → Event → Outcome → World → S → Type 0) → S → S → Show
    → List ℕ → Option (List ℕ) → Option (List ℕ) → Type 0
IsSeen after one other show input old new = (stage : Stage)
    × Writes (λ lines text. SeesAll after one stage lines text other) stage show input old new

-- the machine at a stage, if there is one
abbrev pub HasMachine : Stage → Option World → Type 0
HasMachine (Start limit) machine = machine ≡ None
HasMachine (Declared limit a) machine = machine ≡ None
HasMachine (Running w) machine = machine ≡ Some w

-- the same, where this is the machine at the end
abbrev pub IsSeenWith : {S : Type 0} → (S → World → Event → Outcome → World → S → Type 0) → S → S → Option World → Show
    → List ℕ → Option (List ℕ) → Option (List ℕ) → Type 0
IsSeenWith after one other machine show input old new = (stage : Stage) × HasMachine stage machine
    × Writes (λ lines text. SeesAll after one stage lines text other) stage show input old new
