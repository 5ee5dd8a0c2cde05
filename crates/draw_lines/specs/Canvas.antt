-- A whole picture
use Rattle.std.specs.Prelude.{ℕ, ◌+◌, ◌-◌, ◌*◌, ◌/◌, List, [], ◌∷◌, ◌++◌, if◌then◌else◌, codes, decimal, length, min, max}
use Rattle.std.specs.Prelude.{slice_index_or}
use Rattle.std.specs.List.{concat, flat_map}
use Rattle.vm_base.specs.Cores.{members}
use Rattle.vm_base.specs.declared.page.PageRange.{PageRange}
use Rattle.trace_text.specs.Lists.{start_of}
use Rattle.draw_steps.specs.Canvas.{head_text, size_text}
use Rattle.draw_steps.specs.Elements.{line_text, text_front}
use Rattle.draw_steps.specs.Rows.{all_stretches, edges_of, row_at, rows_of}
use Rattle.draw_steps.specs.Shapes.{arrows_of, bars_of}
use Rattle.draw_steps.specs.Texts.{first_texts}
use Rattle.draw_steps.specs.declared.elements.Way.{Way}
use Rattle.draw_steps.specs.declared.moments.Recorded.{Recorded}
use Rattle.draw_steps.specs.declared.shapes.Arrow.{Arrow}
use Rattle.draw_steps.specs.declared.shapes.Bar.{Bar}
use Rattle.draw_steps.specs.declared.shapes.Stretch.{Stretch}
use Rattle.draw_lines.specs.Cores.{acting, acts}
use Rattle.draw_lines.specs.Dangers.{dangers_of}
use Rattle.draw_lines.specs.Drawing.{arrow_text, bar_text, danger_text, mark_text, stretch_text, wait_text}
use Rattle.draw_lines.specs.Sheet.{across, lane, lanes_of, pitch, row_y, rows_y, sheet_of, wide}
use Rattle.draw_lines.specs.Style.{legend_words, style_text}
use Rattle.draw_lines.specs.declared.dangers.Danger.{Danger}
use Rattle.draw_lines.specs.declared.sheet.Layout.{Layout}
use Rattle.draw_lines.specs.declared.sheet.Layout.TheVariants.{Wide, Narrow, Flat}
use Rattle.draw_lines.specs.declared.sheet.Sheet.{Sheet}
use Rattle.draw_lines.specs.declared.waits.Waited.{Waited}

-- the columns behind 150 for the names, and never less than the legend wants
abbrev pub width : Sheet → ℕ
width sheet = max (160 + across sheet sheet.columns) 740

-- lanes above, 20 units a row, at most 256 rows, and the legend below
abbrev pub height : Sheet → ℕ → ℕ
height sheet rows = rows_y sheet + 20 * min rows 256 + 56

-- how words stand, as an attribute
abbrev pub form_class : Layout → List ℕ
form_class Wide = codes " class=\"Wide\""
form_class Narrow = codes " class=\"Narrow\""
form_class Flat = codes " class=\"Flat\""

-- the line of a column; 0 where there is none
abbrev pub line_at : List ℕ → ℕ → ℕ
line_at heads at = slice_index_or heads at 0

-- which lines the picture has
unfoldable pub title_text : Sheet → List ℕ → List ℕ
title_text sheet heads = concat (codes "<title>Lines " ∷ decimal (line_at heads 0) ∷ codes " to " ∷ decimal (line_at heads (length heads - 1))
    ∷ codes " of a trace, in which " ∷ decimal (lanes_of sheet.cores) ∷ codes " cores act</title>\n" ∷ [])

-- the beginning of the text
unfoldable pub front_text : Sheet → List ℕ → ℕ → List ℕ
front_text sheet heads high = size_text (form_class sheet.form) (width sheet) high ++ title_text sheet heads ++ style_text

-- a column's line, and the number of its trace's line
abbrev pub column_x : Sheet → ℕ → ℕ
column_x sheet at = 150 + across sheet at

abbrev pub column_way : Sheet → ℕ → ℕ → Way
column_way sheet bottom at = record { x1 = column_x sheet at; y1 = 36; x2 = column_x sheet at; y2 = bottom }

unfoldable pub column_text : Sheet → List ℕ → ℕ → ℕ → List ℕ
column_text sheet heads bottom at = concat (line_text (codes "grid") (column_way sheet bottom at)
    ∷ text_front (codes "step") (column_x sheet at + wide sheet / 2) 30 ∷ decimal (line_at heads at) ∷ codes "</text>\n" ∷ [])

-- a core's lane
abbrev pub lane_way : Sheet → ℕ → Way
lane_way sheet core = record { x1 = 8; y1 = lane sheet core; x2 = 150 + across sheet sheet.columns; y2 = lane sheet core }

unfoldable pub lane_text : Sheet → ℕ → List ℕ
lane_text sheet core = concat (line_text (codes "lane") (lane_way sheet core) ∷ text_front (codes "core") 8 (lane sheet core + pitch sheet / 2 + 4)
    ∷ codes "core " ∷ decimal core ∷ codes "</text>\n" ∷ [])

-- if it has one
abbrev pub lane_of : Sheet → ℕ → List ℕ
lane_of sheet core = if members sheet.cores core then lane_text sheet core else []

-- the addresses of a row
unfoldable pub row_text : Sheet → List PageRange → ℕ → List ℕ
row_text sheet rows at = concat (text_front (codes "page") 8 (row_y sheet at + 14) ∷ start_of (row_at rows at).first ∷ codes "-"
    ∷ start_of (row_at rows at).end ∷ codes "</text>\n" ∷ [])

unfoldable pub legend_text : ℕ → List ℕ
legend_text bottom = concat (codes "<g transform=\"translate(0 " ∷ decimal (bottom + 12) ∷ codes ")\">\n" ∷ legend_words ∷ codes "</g>\n" ∷ [])

-- what shapes are drawn on, with the first 2,000 columns, and the addresses of the first 256 rows
unfoldable pub canvas_text : Sheet → List ℕ → List PageRange → ℕ → ℕ → List ℕ
canvas_text sheet heads rows high bottom = front_text sheet heads high ++ first_texts (column_text sheet heads bottom) (min (length heads) 2000)
    ++ first_texts (lane_of sheet) 64 ++ head_text (rows_y sheet - 8) (length rows)
    ++ first_texts (row_text sheet rows) (min (length rows) 256) ++ legend_text bottom

-- pages first, dangers, arrows, then calls over them, marks and waits
unfoldable pub drawn : Sheet → List ℕ → List Recorded → List Waited → List Stretch → List Danger → List Arrow → List Bar → List ℕ
drawn sheet text all waits stretches dangers arrows bars = flat_map (stretch_text sheet text) stretches ++ flat_map (danger_text sheet) dangers
    ++ flat_map (arrow_text sheet) arrows ++ flat_map (bar_text sheet) bars ++ flat_map (mark_text sheet) all ++ flat_map (wait_text sheet) waits
    ++ codes "</svg>\n"

-- on this sheet, with these rows
abbrev pub picture_on : Sheet → List PageRange → List ℕ → List ℕ → List Recorded → List Waited → List ℕ
picture_on sheet rows text heads all waits = canvas_text sheet heads rows (height sheet (length rows)) (height sheet (length rows) - 52)
    ++ drawn sheet text all waits (all_stretches all rows) (dangers_of all all) (arrows_of all all) (bars_of all all)

-- the picture of what happened in the columns from the first on, of these lines, in the run of a trace of this text
abbrev pub picture_text : List ℕ → ℕ → List ℕ → List Recorded → List Waited → List ℕ
picture_text text first heads all waits =
    picture_on (sheet_of (acting (acts all) 64) first (min (length heads) 2000)) (rows_of all (edges_of all)) text heads all waits
