-- The run that the lines of a trace make: which events they ask for, and which of the outcomes they
-- print
use Rattle.std.specs.Prelude.{◌≡◌, ℕ, List, [], ◌∷◌, ◌++◌, IsSomeAnd}
use Rattle.vm_base.specs.declared.requests.Request.{Request}
use Rattle.machine_model.specs.declared.event.Event.{Event}
use Rattle.machine_model.specs.declared.event.Event.TheVariants as Ev
use Rattle.machine_model.specs.declared.event.Outcome.{Outcome}
use Rattle.machine_model.specs.declared.event.Outcome.TheVariants.{Stepped}
use Rattle.machine_model.specs.World.{World}
use Rattle.machine_model.specs.Step.{Run}
use Rattle.machine_model.specs.Brackets.{IsBracketed}
use Rattle.machine_model.specs.Sound.{SoundRun}
use Rattle.core_steps.specs.declared.machine.Finished.{Finished}
use Rattle.watched.specs.Watching.{GoesUntil}
use Rattle.machine_model.specs.declared.setup.CallLimit.{CallLimit}
use Rattle.trace_text.specs.Line.{line_of}
use Rattle.trace_text.specs.declared.line.Line.{Line}
use Rattle.trace_text.specs.declared.line.Line.TheVariants.{Blank, Space, File, Act, Fold, Finish, Now}
use Rattle.trace_words.specs.Declarations.{DeclarationView}
use Rattle.trace_words.specs.Events.{event_of}
use Rattle.trace_words.specs.OutcomeText.{outcome_text}
use Rattle.trace.specs.FinishedText.{finished_text}
use Rattle.trace.specs.Stage.{Start, Running, new_machine}
use Rattle.trace.specs.Runs.{Runs}

-- ---- a line

-- one event, whose outcome is printed
abbrev pub AsksOne : Event → List Event → List Outcome → List ℕ → Type 0
AsksOne e es os text = (o : Outcome) × (es ≡ e ∷ []) × (os ≡ o ∷ []) × (text ≡ outcome_text o)

-- the last of these outcomes is printed
abbrev pub AsksFinish : ℕ → List Event → List Outcome → List ℕ → Type 0
AsksFinish core es os text =
    (n : ℕ) × (f : Finished) × GoesUntil core n f es os × (text ≡ finished_text f)

-- a call that begins is finished; of one that doesn't the outcome is printed
abbrev pub AsksCall : ℕ → Request → Outcome → List Event → List Outcome → List ℕ → Type 0
AsksCall core request Stepped es os text =
    (more : List Event) × (others : List Outcome) × AsksFinish core more others text
    × (es ≡ Ev.Call core request ∷ more) × (os ≡ Stepped ∷ others)
AsksCall core request o es os text =
    (es ≡ Ev.Call core request ∷ []) × (os ≡ o ∷ []) × (text ≡ outcome_text o)

-- what a line asks for, the outcomes, and its text
abbrev pub Asks : Line → List Event → List Outcome → List ℕ → Type 0
Asks Blank es os text = (es ≡ []) × (os ≡ []) × (text ≡ [])
Asks (Space cores frames calls) es os text = (es ≡ []) × (os ≡ []) × (text ≡ [])
Asks (File n mode len seed) es os text = (es ≡ []) × (os ≡ []) × (text ≡ [])
Asks (Act core action) es os text = AsksOne (event_of core action) es os text
Asks (Fold page) es os text = AsksOne (Ev.Fold page) es os text
Asks (Finish core) es os text = AsksFinish core es os text
Asks (Now core request) es os text = (o : Outcome) × AsksCall core request o es os text

-- ---- lines

-- a line, and then what the others ask for
pub record AsksFirst (line : List ℕ) (Others : List Event → List Outcome → List ℕ → Type 0)
    (es : List Event) (os : List Outcome) (text : List ℕ) : Type 0 where
  pub first : List Event
  pub later : List Event
  pub outcome : List Outcome
  pub outcomes : List Outcome
  pub front : List ℕ
  pub rest : List ℕ
  pub asks : IsSomeAnd (line_of line) (λ said. Asks said first outcome front)
  pub others : Others later outcomes rest
  pub events : es ≡ first ++ later
  pub came : os ≡ outcome ++ outcomes
  pub prints : text ≡ front ++ rest

-- what the lines ask for in order, the outcomes, and the text
abbrev pub AllAsk : List (List ℕ) → List Event → List Outcome → List ℕ → Type 0
AllAsk [] es os text = (es ≡ []) × (os ≡ []) × (text ≡ [])
AllAsk (line ∷ lines) es os text = AsksFirst line (AllAsk lines) es os text

-- ---- a trace

-- The lines ask for these events of a new machine, and print of their outcomes what the
-- text says. The run is sound: its log is that of a plain page map, in which each reply that was
-- handed out stands once, between its call and its answer.
pub record IsRun (lines : List (List ℕ)) (text : List ℕ) (w : World) : Type 0 where
  pub asked : DeclarationView
  pub events : List Event
  pub outcomes : List Outcome
  pub asks : AllAsk lines events outcomes text
  pub run : Run (new_machine asked) events outcomes w
  pub sound : SoundRun (new_machine asked) events outcomes w
  pub brackets : IsBracketed events outcomes w.calls.requests w.calls.log

-- lines that are acted on from the start, within each limit of calls, up to a machine
abbrev pub AllTracesAreRuns : Type 0
AllTracesAreRuns =
    (limit : CallLimit) (lines : List (List ℕ)) (text : List ℕ) (w : World)
    → Runs (Start limit) lines (Running w) text → IsRun lines text w
