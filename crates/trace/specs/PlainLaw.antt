-- Traces give the text of the plain page map while the machine can count their events
use Rattle.std.specs.Prelude.{ℕ, ◌<◌, List}
use Rattle.machine_model.specs.Step.{event_limit}
use Rattle.machine_model.specs.declared.setup.CallLimit.{CallLimit}
use Rattle.trace_words.specs.declared.show.Show.{Show}
use Rattle.trace.specs.PlainText.{AllAnswer, IsPlainBehind, nothing_reached}
use Rattle.trace.specs.Runs.{Runs}
use Rattle.trace.specs.Shown.{IsBehind, log_at}
use Rattle.trace.specs.Stage.{Stage, Start, Declared, Running, CanOpen}

-- how many events were counted: none before there is a machine
abbrev pub events_at : Stage → ℕ
events_at (Start limit) = 0
events_at (Declared limit a) = 0
events_at (Running w) = w.calls.events

-- While the machine can count its events, the text of the lines is that of the plain page map and
-- the users of its pages, line for line, and what comes behind it is that map's, too.
abbrev pub GivesPlainText : Show → List (List ℕ) → Stage → List ℕ → List ℕ → Type 0
GivesPlainText show lines stage text behind =
    events_at stage < event_limit
    → AllAnswer (IsPlainBehind show (log_at stage) behind) nothing_reached lines text

-- so it is for all lines that are acted on, within each limit, where the trace can end there
abbrev pub AllTracesArePlain : Type 0
AllTracesArePlain =
    (limit : CallLimit) (show : Show) (lines : List (List ℕ)) (stage : Stage)
    (text behind : List ℕ) → Runs (Start limit) lines stage text → CanOpen stage → IsBehind show stage behind
    → GivesPlainText show lines stage text behind
