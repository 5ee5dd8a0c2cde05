-- The lines of an opening, as the machine is given them.
use Rattle.std.specs.Prelude.{Bool, true, false, List, [], ◌∷◌}
use Rattle.litmus_merges.specs.declared.asked.Asked.{Asked}
use Rattle.machine_model.specs.declared.event.Event.TheVariants as Ev
use Rattle.trace_words.specs.Events.{event_of}
use Rattle.trace_text.specs.declared.action.Action.TheVariants.{Flush, Review}
use Rattle.trace_text.specs.declared.line.Line.{Line}
use Rattle.trace_text.specs.declared.line.Line.TheVariants.{Act, Fold, Finish, Now}
use Rattle.litmus_outcomes.specs.declared.outcome.Opened.{Opened}
use Rattle.litmus_outcomes.specs.declared.outcome.Opened.TheVariants as Of

-- a line that is no event's gives nothing
abbrev pub opened_of : Line → List Opened
opened_of (Act core action) = Of.Step (event_of core action) ∷ []
opened_of (Fold page) = Of.Step (Ev.Fold page) ∷ []
opened_of (Finish core) = Of.Finish core ∷ []
opened_of (Now core request) = Of.Whole core request ∷ []
opened_of line = []

-- a kernel can be asked for it: a whole call, or a flush or a review, of which calls show nothing
abbrev pub is_called : Line → Bool
is_called (Now core request) = true
is_called (Act core Flush) = true
is_called (Act core Review) = true
is_called line = false

-- the call of a line
abbrev pub calls_of : Line → List Asked
calls_of (Now core request) = record { core = core; request = request } ∷ []
calls_of line = []
