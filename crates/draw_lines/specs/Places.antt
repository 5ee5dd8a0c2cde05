-- Where things lie in a picture, in its units
use Rattle.std.specs.Prelude.{ℕ, ◌+◌, ◌-◌, ◌*◌, ◌/◌, ◌^◌, Option, None, Some, if◌then◌else◌, min, nat_lt}
use Rattle.draw_steps.specs.declared.elements.Rect.{Rect}
use Rattle.draw_steps.specs.declared.elements.Way.{Way}
use Rattle.draw_steps.specs.declared.moments.Answer.{Answer}
use Rattle.draw_steps.specs.declared.shapes.Bar.{Bar}
use Rattle.draw_steps.specs.declared.shapes.Arrow.{Arrow}
use Rattle.draw_steps.specs.declared.shapes.Course.{Course}
use Rattle.draw_steps.specs.declared.shapes.Course.TheVariants.{Message, Acknowledgement}
use Rattle.draw_steps.specs.declared.shapes.Stretch.{Stretch}
use Rattle.draw_lines.specs.Sheet.{across, column, lane, pitch, row_y, wide}
use Rattle.draw_lines.specs.declared.dangers.Danger.{Danger}
use Rattle.draw_lines.specs.declared.sheet.Layout.{Layout}
use Rattle.draw_lines.specs.declared.sheet.Layout.TheVariants.{Wide, Narrow, Flat}
use Rattle.draw_lines.specs.declared.sheet.Sheet.{Sheet}

-- how far a bar lies from the edges of its lane
abbrev pub inset : Layout → ℕ
inset Wide = 5
inset Narrow = 5
inset Flat = 1

-- the column of the answer, or the last of the picture, of those below 2^64
abbrev pub last_column : Sheet → Option Answer → ℕ
last_column sheet (Some answer) = answer.step
last_column sheet None = min (sheet.first + sheet.columns) (2 ^ 64 - 1) - 1

-- a bar reaches from the begin of its first column to the end of its last
abbrev pub bar_place : Sheet → Bar → Rect
bar_place sheet bar = record {
  x = column sheet bar.begin + 2;
  y = lane sheet bar.core + inset sheet.form;
  width = column sheet (last_column sheet bar.answer) + wide sheet - (column sheet bar.begin + 4);
  height = pitch sheet - 2 * inset sheet.form;
}

-- words begin at the upper edge of their bar; upright ones at its lower edge
abbrev pub words_in : Sheet → ℕ → Layout → ℕ
words_in sheet core Wide = lane sheet core + inset Wide
words_in sheet core Flat = lane sheet core + inset Flat
words_in sheet core Narrow = lane sheet core + pitch sheet - 5

abbrev pub words_y : Sheet → ℕ → ℕ
words_y sheet core = words_in sheet core sheet.form

-- the middle of a column
abbrev pub middle : Sheet → ℕ → ℕ
middle sheet number = column sheet number + wide sheet / 2

-- how far a mark lies from the edges of its lane
abbrev pub mark_inset : Layout → ℕ
mark_inset Wide = 22
mark_inset Narrow = 55
mark_inset Flat = 2

-- a mark is as wide as its column, but for 4, and 60 at the most
abbrev pub mark_wide : Sheet → ℕ
mark_wide sheet = min (wide sheet) 64 - 4

-- in the middle of its column and of its core's lane
abbrev pub mark_place : Sheet → ℕ → ℕ → Rect
mark_place sheet core number = record {
  x = middle sheet number - mark_wide sheet / 2;
  y = lane sheet core + mark_inset sheet.form;
  width = mark_wide sheet;
  height = pitch sheet - 2 * mark_inset sheet.form;
}

-- what lies so far from the edges of a core's lane is met below where the other core lies below, else above
abbrev pub edge : Sheet → ℕ → ℕ → ℕ → ℕ
edge sheet core other by = if nat_lt core other then lane sheet core + pitch sheet - by else lane sheet core + by

-- from the column in which it goes out to that in which it comes, between two cores
abbrev pub way_between : Sheet → Arrow → ℕ → ℕ → Way
way_between sheet a leaves comes = record {
  x1 = middle sheet a.sent;
  y1 = edge sheet a.from a.to leaves;
  x2 = middle sheet a.came;
  y2 = edge sheet a.to a.from comes;
}

-- from the bar of the call whose message it is to the mark of the take, or back
abbrev pub way_of : Sheet → Arrow → Course → Way
way_of sheet a Message = way_between sheet a (inset sheet.form) (mark_inset sheet.form)
way_of sheet a Acknowledgement = way_between sheet a (mark_inset sheet.form) (inset sheet.form)

abbrev pub arrow_way : Sheet → Arrow → Way
arrow_way sheet a = way_of sheet a a.course

-- where it ends, from the left
abbrev pub right_of : Sheet → Option ℕ → ℕ
right_of sheet (Some number) = middle sheet number
right_of sheet None = 150 + across sheet sheet.columns

-- over the whole height of the lane of the core that may use the translations
abbrev pub danger_place : Sheet → Danger → Rect
danger_place sheet d = record {
  x = middle sheet d.begin;
  y = lane sheet d.core + 1;
  width = right_of sheet d.end - middle sheet d.begin;
  height = pitch sheet - 2;
}

-- in its row
abbrev pub stretch_place : Sheet → Stretch → Rect
stretch_place sheet s = record {
  x = middle sheet s.begin;
  y = row_y sheet s.row + 2;
  width = right_of sheet s.end - middle sheet s.begin;
  height = 16;
}
