-- What a line of an event gives: the text of the outcome that the machine comes to.
use Rattle.std.specs.Prelude.{◌≡◌, ◌⊎◌, ℕ, List, Bool, true, false, Option, None, Some}
use Rattle.slot_lock.specs.Slots.{Slots}
use Rattle.machine_model.specs.declared.event.Event.{Event}
use Rattle.machine_model.specs.declared.event.Event.TheVariants as Ev
use Rattle.machine_model.specs.declared.event.Outcome.{Outcome}
use Rattle.machine_model.specs.declared.event.Outcome.TheVariants.{Stepped, Wait, Idle, Answered, Full}
use Rattle.machine_model.specs.World.{World}
use Rattle.machine_model.specs.Step.{Step}
use Rattle.core_steps.specs.declared.machine.Finished.{Finished}
use Rattle.core_steps.specs.Finishing.{Finishes, IsRefused}
use Rattle.core_steps.specs.Moving.{MayWant, JoinsAsMap}
use Rattle.trace_text.specs.declared.line.Line.{Line}
use Rattle.trace_text.specs.declared.line.Line.TheVariants.{Blank, Space, File, Act, Fold, Finish, Now}
use Rattle.trace_words.specs.Events.{event_of}
use Rattle.trace_words.specs.OutcomeText.{outcome_text}
use Rattle.trace.specs.FinishedText.{finished_text}

-- one step, and the text of its outcome
abbrev pub TellsStep : World → Event → World → List ℕ → Type 0
TellsStep w event v text = (o : Outcome) × Step w event o v × (text ≡ outcome_text o)

-- a fold, whose outcome is told, and which joins slots just where the slot map can, as that does
abbrev pub TellsFold : (Slots → ℕ → Type 0) → (Slots → Slots → ℕ → Type 0) → World → ℕ → World
    → List ℕ → Type 0
TellsFold CanFold Folds w page v text = (o : Outcome) × Step w (Ev.Fold page) o v
    × (text ≡ outcome_text o) × JoinsAsMap CanFold Folds w (Ev.Fold page) o v

-- the steps that finish the core's call, and the text of the last outcome
abbrev pub TellsFinish : World → ℕ → World → List ℕ → Type 0
TellsFinish w core v text = (f : Finished) × Finishes w core f v × (text ≡ finished_text f)

-- a call that began is finished; of one that didn't the outcome is told
abbrev pub TellsCall : World → ℕ → Outcome → World → List ℕ → Type 0
TellsCall m core Stepped v text = TellsFinish m core v text
TellsCall m core (Wait blocker) v text = (v ≡ m) × (text ≡ outcome_text (Wait blocker))
TellsCall m core Idle v text = (v ≡ m) × (text ≡ outcome_text Idle)
TellsCall m core (Answered reply) v text = (v ≡ m) × (text ≡ outcome_text (Answered reply))
TellsCall m core Full v text = (v ≡ m) × (text ≡ outcome_text Full)

-- what the line gives, over a slot map that folds so
abbrev pub Gives : (Slots → ℕ → Type 0) → (Slots → Slots → ℕ → Type 0) → World → Line → World
    → List ℕ → Type 0
Gives CanFold Folds w Blank v text = ⊥
Gives CanFold Folds w (Space cores frames calls) v text = ⊥
Gives CanFold Folds w (File n mode len seed) v text = ⊥
Gives CanFold Folds w (Act core action) v text = TellsStep w (event_of core action) v text
Gives CanFold Folds w (Fold page) v text = TellsFold CanFold Folds w page v text
Gives CanFold Folds w (Finish core) v text = TellsFinish w core v text
Gives CanFold Folds w (Now core request) v text = (o : Outcome) × (m : World)
    × Step w (Ev.Call core request) o m × TellsCall m core o v text

-- some step that finishes the core's call was refused for memory
abbrev pub WantsFinish : Bool → World → ℕ → Type 0
WantsFinish keeps w core = (v : World) × IsRefused keeps w core v

-- a step that the line asks for was refused for memory
abbrev pub Wants : Bool → World → Line → Type 0
Wants keeps w Blank = ⊥
Wants keeps w (Space cores frames calls) = ⊥
Wants keeps w (File n mode len seed) = ⊥
Wants keeps w (Act core action) = MayWant keeps w (event_of core action)
Wants keeps w (Fold page) = MayWant keeps w (Ev.Fold page)
Wants keeps w (Finish core) = WantsFinish keeps w core
Wants keeps w (Now core request) = MayWant keeps w (Ev.Call core request)
    ⊎ ((m : World) × Step w (Ev.Call core request) Stepped m × WantsFinish keeps m core)

-- the line of an event
abbrev pub is_event : Option Line → Bool
is_event None = false
is_event (Some Blank) = false
is_event (Some (Space cores frames calls)) = false
is_event (Some (File n mode len seed)) = false
is_event (Some (Act core action)) = true
is_event (Some (Fold page)) = true
is_event (Some (Finish core)) = true
is_event (Some (Now core request)) = true
