-- What comes out of runs of a litmus test on threads
use Rattle.std.specs.Prelude.{◌≡◌, ℕ, List, [], ◌∷◌, ◌++◌, All, false, length, map, true}
use Rattle.vm_base.specs.declared.replies.Reply.{Reply}
use Rattle.slot_lock.specs.Slots.{Slots}
use Rattle.machine_model.specs.declared.event.Event.{Event}
use Rattle.machine_model.specs.declared.event.Outcome.{Outcome}
use Rattle.machine_model.specs.World.{World, new_world}
use Rattle.machine_model.specs.Step.{Run}
use Rattle.seats.specs.declared.noted.Noted.{Noted}
use Rattle.certifier.specs.Following.{IsNewTree, events_in_order, outcomes_in_order}
use Rattle.certifier.specs.Order.{AreNumbered}
use Rattle.litmus_merges.specs.declared.asked.Asked.{Asked}
use Rattle.trace_words.specs.Declarations.{DeclarationView, made_by}
use Rattle.litmus_outcomes.specs.Performed.{PerformsScript}
use Rattle.litmus_report.specs.Texts.{outcome_text}
use Rattle.litmus.specs.Counts.{lines_behind}

-- The notes have the tickets below their number, each once, and in order of these they are a run of a new machine as it is declared.
pub record IsRunOf (declared : DeclarationView) (notes : List Noted) : Type 0 where
  pub numbered : AreNumbered notes
  pub slots : Slots
  pub new : IsNewTree slots
  pub end : World
  pub run : Run (new_world (made_by declared) slots) (events_in_order notes) (outcomes_in_order notes) end

-- The calls are performed one after another: the first of the events perform the first call, and those behind them the others in order.
abbrev pub PerformsInOrder : List Asked → List Event → List Outcome → Type 0
PerformsInOrder [] events outcomes = PerformsScript [] [] events outcomes
PerformsInOrder (call ∷ calls) events outcomes = (first rest : List Event) × (came others : List Outcome) × (replies : List Reply)
    × PerformsScript (call ∷ []) replies first came × (events ≡ first ++ rest) × (outcomes ≡ came ++ others)
    × PerformsInOrder calls rest others

-- The first of the events perform the calls of the opening, in the order of its lines, those behind them the calls of the lists with these
-- replies, and the last ones the loads with these.
pub record ReadsAs (before calls loads : List Asked) (replies finals : List Reply) (events : List Event) (outcomes : List Outcome) : Type 0
  where
    pub first : List Event
    pub middle : List Event
    pub last : List Event
    pub are : events ≡ first ++ middle ++ last
    pub firsts : List Outcome
    pub middles : List Outcome
    pub lasts : List Outcome
    pub came : outcomes ≡ firsts ++ middles ++ lasts
    pub opens : PerformsInOrder before first firsts
    pub performs : PerformsScript calls replies middle middles
    pub shows : PerformsScript loads finals last lasts

-- what threads noted is such a run, and is read so
pub record ComesOut (declared : DeclarationView) (before calls loads : List Asked) (replies finals : List Reply) : Type 0 where
  pub notes : List Noted
  pub run : IsRunOf declared notes
  pub reads : ReadsAs before calls loads replies finals (events_in_order notes) (outcomes_in_order notes)

-- what a run came to
pub record Shown : Type 0 where
  pub replies : List Reply
  pub finals : List Reply

-- its text, without mappings
abbrev pub text_of : List Asked → List ℕ → Shown → List ℕ
text_of calls addrs s = outcome_text calls addrs false (record { replies = s.replies; finals = s.finals; maps = []; reached = true })

-- so many runs came to these texts, one after another
pub record ComeTo (declared : DeclarationView) (before calls loads : List Asked) (addrs : List ℕ) (runs : ℕ) (texts : List (List ℕ)) : Type 0 where
  pub came : List Shown
  pub count : length came ≡ runs
  pub each : All (λ s. ComesOut declared before calls loads s.replies s.finals) came
  pub are : texts ≡ map (text_of calls addrs) came

-- the text counts what so many runs came to
pub record CountsRuns (declared : DeclarationView) (before calls loads : List Asked) (addrs : List ℕ) (runs : ℕ) (text : List ℕ) : Type 0 where
  pub texts : List (List ℕ)
  pub come : ComeTo declared before calls loads addrs runs texts
  pub is : text ≡ lines_behind [] texts
