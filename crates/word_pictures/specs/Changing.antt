-- The lines of a trace, each with what it changes in the state
use Rattle.std.specs.Prelude.{ℕ, List, [], Option, None, Some}
use Rattle.machine_model.specs.declared.setup.CallLimit.TheVariants.{Usual}
use Rattle.state_changes.specs.Behind.{SaysChanges}
use Rattle.trace_io.specs.Lines.{lines_of}
use Rattle.trace.specs.Echo.{EchoesAll}
use Rattle.word_parts.specs.declared.asked.Echoed.{Echoed}

-- each line is shown beside what it gave, and what it changed in the state below it
pub record SaysStates (shows : Echoed) (input text : List ℕ) : Type 0 where
  pub changes : List (List ℕ)
  pub says : SaysChanges (lines_of input) changes
  pub echoes : EchoesAll shows.coloured shows.logs changes Usual input (Some []) (Some text)

-- no line is asked for, so that none is lacking
abbrev pub lacking_change : List ℕ → Option ℕ
lacking_change text = None

-- that is all of what is written
abbrev pub as_it_is : List ℕ → List ℕ
as_it_is text = text
