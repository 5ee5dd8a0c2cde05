-- What is told of the end of a trace: the state to which it leads, and its mappings
use Rattle.std.specs.Prelude.{ℕ, ◌^◌, List}
use Rattle.machine_model.specs.Step.{Run}
use Rattle.machine_model.specs.World.{World}
use Rattle.machine_model.specs.declared.event.Event.{Event}
use Rattle.machine_model.specs.declared.event.Outcome.{Outcome}
use Rattle.trace_words.specs.Declarations.{DeclarationView}
use Rattle.trace.specs.EventRuns.{AllAsk}
use Rattle.trace.specs.Shown.{ListsUpTo}
use Rattle.trace.specs.Stage.{Opens, Stage, new_machine}
use Rattle.state_text.specs.Traces.{Told}

-- The lines ask for these events of a new machine, which came to these outcomes, one after another,
-- and led to the state.
pub record ComesTo (lines : List (List ℕ)) (w : World) : Type 0 where
  pub asked : DeclarationView
  pub events : List Event
  pub outcomes : List Outcome
  pub text : List ℕ
  pub asks : AllAsk lines events outcomes text
  pub run : Run (new_machine asked) events outcomes w

-- The lines lead to the state, and these are its mappings: those of the plain page map to which its log
-- leads. Up to the first event it has none.
pub record IsTold (lines : List (List ℕ)) (t : Told) : Type 0 where
  pub comes : ComesTo lines t.world
  pub stage : Stage
  pub is : Opens stage t.world
  pub maps : ListsUpTo stage (2 ^ 35) t.maps
