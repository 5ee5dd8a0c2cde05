-- A whole picture.
use Rattle.std.specs.Prelude.{ℕ, ◌+◌, ◌-◌, ◌*◌, ◌^◌, List, [], ◌∷◌, ◌++◌, if◌then◌else◌, codes, decimal, length, min, max, nat_lt}
use Rattle.std.specs.List.{concat, flat_map}
use Rattle.vm_base.specs.declared.page.PageRange.{PageRange}
use Rattle.trace_text.specs.Lists.{start_of}
use Rattle.draw_steps.specs.Drawing.{arrow_text, bar_text, mark_text, stretch_text}
use Rattle.draw_steps.specs.Elements.{line_text, text_front}
use Rattle.draw_steps.specs.Places.{row_y, rows_y}
use Rattle.draw_steps.specs.Rows.{all_stretches, edges_of, row_at, rows_of}
use Rattle.draw_steps.specs.Shapes.{arrows_of, bars_of, marks_of}
use Rattle.draw_steps.specs.Style.{legend_words, more_words, style_text}
use Rattle.draw_steps.specs.Texts.{first_texts}
use Rattle.draw_steps.specs.declared.elements.Way.{Way}
use Rattle.draw_steps.specs.declared.moments.Recorded.{Recorded}
use Rattle.draw_steps.specs.declared.places.View.{View}
use Rattle.draw_steps.specs.declared.shapes.Arrow.{Arrow}
use Rattle.draw_steps.specs.declared.shapes.Bar.{Bar}
use Rattle.draw_steps.specs.declared.shapes.Mark.{Mark}
use Rattle.draw_steps.specs.declared.shapes.Stretch.{Stretch}

-- 52 units a step behind 160 for the names, and never less than the legend wants
abbrev pub width : View → ℕ
width view = max (160 + 52 * view.steps) 640

-- lanes above, 24 units a row, at most 256 rows, and the legend below
abbrev pub height : View → ℕ → ℕ
height view rows = rows_y view + 24 * min rows 256 + 52

-- the beginning of SVG of this size, with these attributes in front of it
unfoldable pub size_text : List ℕ → ℕ → ℕ → List ℕ
size_text attributes w h = concat (codes "<svg xmlns=\"http://www.w3.org/2000/svg\"" ∷ attributes ∷ codes " width=\"" ∷ decimal w
    ∷ codes "\" height=\"" ∷ decimal h ∷ codes "\" viewBox=\"0 0 " ∷ decimal w ∷ codes " " ∷ decimal h ∷ codes "\">\n" ∷ [])

-- the beginning of the text
unfoldable pub front_text : ℕ → ℕ → List ℕ
front_text w h = size_text (codes "") w h ++ style_text

-- a column's line, and the number of its step
abbrev pub column_way : ℕ → ℕ → Way
column_way bottom at = record { x1 = 104 + 52 * at; y1 = 36; x2 = 104 + 52 * at; y2 = bottom }

unfoldable pub column_text : View → ℕ → ℕ → List ℕ
column_text view bottom at = concat (line_text (codes "grid") (column_way bottom at) ∷ text_front (codes "step") (104 + 52 * at + 26) 30
    ∷ decimal (min (view.first + at) (2 ^ 64 - 1)) ∷ codes "</text>\n" ∷ [])

-- a core's lane
abbrev pub lane_way : View → ℕ → Way
lane_way view core = record { x1 = 104; y1 = 80 + 66 * core; x2 = 104 + 52 * view.steps; y2 = 80 + 66 * core }

unfoldable pub lane_text : View → ℕ → List ℕ
lane_text view core = concat (line_text (codes "lane") (lane_way view core) ∷ text_front (codes "core") 8 (80 + 66 * core + 4)
    ∷ codes "core " ∷ decimal core ∷ codes "</text>\n" ∷ [])

-- the address at which a row begins
unfoldable pub row_text : View → List PageRange → ℕ → List ℕ
row_text view rows at = concat (text_front (codes "page") 8 (row_y view at + 15) ∷ start_of (row_at rows at).first ∷ codes "</text>\n" ∷ [])

-- above the rows: where not all are shown, how many there are
abbrev pub head_words : ℕ → List ℕ
head_words rows = if nat_lt 256 rows
    then concat (codes "pages: the first 256 rows of " ∷ decimal rows ∷ codes "</text>\n" ∷ []) else codes "pages</text>\n"

unfoldable pub head_text : ℕ → ℕ → List ℕ
head_text y rows = text_front (codes "head") 8 y ++ head_words rows

unfoldable pub legend_text : ℕ → List ℕ
legend_text bottom = concat (text_front (codes "note") 8 (bottom + 18) ∷ legend_words ∷ text_front (codes "note") 8 (bottom + 34)
    ∷ more_words ∷ [])

-- what shapes are drawn on, with the addresses of the first 256 rows
unfoldable pub canvas_of : View → List PageRange → ℕ → ℕ → ℕ → List ℕ
canvas_of view rows wide high bottom = front_text wide high ++ first_texts (column_text view bottom) view.steps
    ++ first_texts (lane_text view) view.cores ++ head_text (rows_y view - 10) (length rows)
    ++ first_texts (row_text view rows) (min (length rows) 256) ++ legend_text bottom

abbrev pub canvas_text : View → List PageRange → List ℕ
canvas_text view rows =
    canvas_of view rows (width view) (height view (length rows)) (height view (length rows) - 44)

-- the canvas and all shapes, with names that the text of the trace has
unfoldable pub drawn : View → List ℕ → List PageRange → List Stretch → List Bar → List Arrow → List Mark → List ℕ
drawn view text rows stretches bars arrows marks = canvas_text view rows ++ flat_map (stretch_text view text) stretches
    ++ flat_map (bar_text view) bars ++ flat_map (arrow_text view) arrows ++ flat_map (mark_text view) marks ++ codes "</svg>\n"

-- all shapes of a picture: pages first, calls over them, then arrows and marks
abbrev pub drawn_of : View → List ℕ → List PageRange → List Recorded → List ℕ
drawn_of view text rows all = drawn view text rows (all_stretches all rows) (bars_of all all) (arrows_of all all) (marks_of all)

-- the picture of what happened in the run of a trace of this text
abbrev pub picture_text : View → List ℕ → List Recorded → List ℕ
picture_text view text all = drawn_of view text (rows_of all (edges_of all)) all
