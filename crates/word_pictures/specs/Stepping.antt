-- The page that steps through a trace
use Rattle.std.specs.Prelude.{◌≡◌, ℕ, ◌&&◌, true, List, [], Option, None, Some}
use Rattle.machine_model.specs.declared.setup.CallLimit.TheVariants.{Usual}
use Rattle.trace_words.specs.declared.show.Show.TheVariants.{OutcomesAndLog}
use Rattle.trace.specs.Ends.{Completes}
use Rattle.trace_io.specs.Lines.{lines_of}
use Rattle.state_changes.specs.declared.template.TheConstants as Template
use Rattle.state_changes.specs.Data.{page_text}
use Rattle.state_changes.specs.Pages.{ShowsStates}
use Rattle.state_changes.specs.Recorded.{Recorded}

-- the replay of the trace gives these outcomes, and the log behind them
abbrev pub Logged : List ℕ → List ℕ → Type 0
Logged input text = Completes Usual OutcomesAndLog input (Some []) (Some text)

-- what a page is made of: the states that were recorded, and the outcomes with the log
pub record PageOf : Type 0 where
  pub recorded : Recorded
  pub shown : List ℕ

abbrev pub made_of : Recorded → List ℕ → PageOf
made_of r shown = record { recorded = r; shown = shown }

-- behind each line the page shows the text of a state to which the lines up to there lead, with its mappings, and it has the outcomes and the log
abbrev pub Paged : List ℕ → PageOf → Type 0
Paged input p = ShowsStates (lines_of input) p.recorded × Logged input p.shown

unfoldable pub page_written : List ℕ → PageOf → List ℕ
page_written input p = page_text Template.FRONT.now Template.BACK.now input p.shown p.recorded

-- no line is asked for, so that none is lacking
abbrev pub lacking_page : PageOf → Option ℕ
lacking_page p = None

-- all was recorded
abbrev pub is_whole : Recorded → Type 0
is_whole r = (r.whole && r.seen.whole) ≡ true
