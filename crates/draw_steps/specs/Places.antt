-- Where things lie in a picture, in its units.
use Rattle.std.specs.Prelude.{ℕ, ◌+◌, ◌-◌, ◌*◌, ◌%◌, ◌^◌, Option, None, Some, if◌then◌else◌, ◌==◌, min, nat_lt}
use Rattle.draw_steps.specs.declared.elements.Rect.{Rect}
use Rattle.draw_steps.specs.declared.elements.Way.{Way}
use Rattle.draw_steps.specs.declared.moments.Answer.{Answer}
use Rattle.draw_steps.specs.declared.places.View.{View}
use Rattle.draw_steps.specs.declared.shapes.Bar.{Bar}
use Rattle.draw_steps.specs.declared.shapes.Arrow.{Arrow}
use Rattle.draw_steps.specs.declared.shapes.Course.{Course}
use Rattle.draw_steps.specs.declared.shapes.Course.TheVariants.{Message, Acknowledgement}
use Rattle.draw_steps.specs.declared.shapes.Stretch.{Stretch}

-- the steps from the first to the last, 2,000 at most
abbrev pub view_of : ℕ → ℕ → ℕ → View
view_of cores first last = record { cores = cores; first = first; steps = min (last - first) 1999 + 1 }

-- 104, and 52 for each column before the step's
abbrev pub column : View → ℕ → ℕ
column view step = 104 + 52 * min (step - view.first) view.steps

-- the top of a core's lane
abbrev pub lane : ℕ → ℕ
lane core = 40 + 66 * core

-- the top of the first row
abbrev pub rows_y : View → ℕ
rows_y view = 80 + 66 * view.cores

-- the top of a row
abbrev pub row_y : View → ℕ → ℕ
row_y view row = rows_y view + 24 * row

-- the step of the answer, or the last that has a column, of those below 2^64
abbrev pub answered_or : View → Option Answer → ℕ
answered_or view (Some answer) = answer.step
answered_or view None = min (view.first + view.steps) (2 ^ 64 - 1) - 1

-- a bar's last step: that of its answer, or the picture's last
abbrev pub last_step : View → Bar → ℕ
last_step view bar = answered_or view bar.answer

-- a bar reaches from the begin of its first step to the end of its last
abbrev pub bar_place : View → Bar → Rect
bar_place view bar = record {
  x = column view bar.begin + 2;
  y = lane bar.core + 27;
  width = column view (last_step view bar) + 48 - column view bar.begin;
  height = 26;
}

-- replies of neighbouring steps stand one above the other
abbrev pub reply_y : ℕ → ℕ
reply_y step = if step % 2 == 0 then 12 else 23

-- below the bar where the other core lies below, else above it
abbrev pub leaving : ℕ → ℕ → ℕ
leaving from to = if nat_lt from to then lane from + 53 else lane from + 27

-- a message ends in the middle of the take's column; an acknowledgement begins there
abbrev pub way_of : View → Arrow → Course → Way
way_of view a Message = record {
  x1 = column view a.sent + 44;
  y1 = leaving a.from a.to;
  x2 = column view a.came + 26;
  y2 = leaving a.to a.from;
}
way_of view a Acknowledgement = record {
  x1 = column view a.came + 26;
  y1 = leaving a.from a.to;
  x2 = column view a.came + 40;
  y2 = leaving a.to a.from;
}

-- from the lane of who tells to the lane of who is told, and back
abbrev pub arrow_way : View → Arrow → Way
arrow_way view a = way_of view a a.course

-- where a stretch ends, from the left
abbrev pub right_of : View → Option ℕ → ℕ
right_of view (Some step) = column view step + 24
right_of view None = 104 + 52 * view.steps

-- from the step that maps the pages to the one that unmaps them
abbrev pub stretch_place : View → Stretch → Rect
stretch_place view s = record {
  x = column view s.begin + 26;
  y = row_y view s.row + 2;
  width = right_of view s.end - (column view s.begin + 26);
  height = 19;
}
