-- The picture of the lines of a trace
use Rattle.std.specs.Prelude.{◌≡◌, ◌⊎◌, ℕ, ◌-◌, ◌^◌, List, Option, None, Some, if◌then◌else◌, nat_le}
use Rattle.machine_model.specs.declared.setup.CallLimit.TheVariants.{Usual}
use Rattle.draw_records.specs.Columns.{Columned, columned, no_margins, nothing_columned}
use Rattle.draw_records.specs.Lines.{asking_from}
use Rattle.word_parts.specs.declared.asked.LineRange.{LineRange}
use Rattle.draw_lines.specs.Canvas.{picture_text}
use Rattle.draw_records.specs.Recording.{nothing_recorded}
use Rattle.state_text.specs.Fronts.{IsFront, lacking_line}
use Rattle.trace_words.specs.declared.fault.TraceFault.{TraceFault}
use Rattle.trace_words.specs.declared.fault.TraceFault.TheVariants.{NoMemory, ReadFailed}
use Rattle.trace_words.specs.declared.show.Show.TheVariants.{Outcomes}
use Rattle.trace.specs.Ends.{Stops}
use Rattle.trace.specs.Seen.{IsSeen}
use Rattle.trace_io.specs.Lines.{lines_of}
use Rattle.watched.specs.Watching.{makes}

-- before the first step of a run of these lines, of which those from the first on are to be shown; up to it nothing is recorded
abbrev pub begun_at : ℕ → List (List ℕ) → Columned
begun_at first lines = nothing_columned (nothing_recorded (2 ^ 64 - 1) (2 ^ 64 - 1)) no_margins (asking_from 1 lines) first

-- what was recorded of the front of a text
pub record Drawn : Type 0 where
  pub front : List ℕ
  pub recorded : Columned

-- the lines of the text up to the last were acted on beside a recorder of columns, which began so
pub record Lined (lines : LineRange) (input : List ℕ) (d : Drawn) : Type 0 where
  pub front : IsFront (Some lines.last) input d.front
  pub watched : IsSeen (makes columned) (begun_at lines.first (lines_of d.front)) d.recorded Outcomes d.front None None

-- no picture of lines comes of the trace: for a fault of these lines, for want of memory, or since it couldn't be read
abbrev pub FailsUpTo : Option ℕ → List ℕ → TraceFault → Type 0
FailsUpTo at input f = ((front : List ℕ) × IsFront at input front
    × ((unread : List ℕ) × Stops Usual Outcomes front unread None None f)) ⊎ ((f ≡ NoMemory) ⊎ (f ≡ ReadFailed))

-- how many lines there are, where the first that is asked for isn't line 1 and is behind them all
abbrev pub lacking_from : ℕ → List (List ℕ) → Option ℕ
lacking_from first lines = if nat_le first 1 then None else lacking_line (Some first) lines

abbrev pub lacking_of : LineRange → Drawn → Option ℕ
lacking_of lines d = lacking_from lines.first (lines_of d.front)

-- the picture of what was recorded, with names that the text has
abbrev pub lines_picture : List ℕ → Columned → List ℕ
lines_picture text r = picture_text text r.recording.first r.margins.heads r.recording.moments r.margins.waits

abbrev pub picture_drawn : Drawn → List ℕ
picture_drawn d = lines_picture d.front d.recorded
