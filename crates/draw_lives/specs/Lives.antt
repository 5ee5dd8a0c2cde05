-- The lives of mappings over a whole run.
use Rattle.std.specs.Prelude.{ℕ, ◌+◌, ◌-◌, ◌*◌, ◌/◌, ◌^◌, Bool, List, [], ◌∷◌, ◌++◌, Option, None, Some, if◌then◌else◌, ◌==◌}
use Rattle.std.specs.Prelude.{codes, decimal, length, min, nat_lt, slice_get, take}
use Rattle.std.specs.List.{concat, flat_map}
use Rattle.vm_base.specs.declared.info.Back.{Back}
use Rattle.vm_base.specs.declared.info.Back.TheVariants.{Anon, Shared, Private}
use Rattle.trace_text.specs.Lists.{start_of}
use Rattle.trace_text.specs.Spelling.{rights_text}
use Rattle.draw_steps.specs.Backing.{backing_words}
use Rattle.draw_steps.specs.Canvas.{front_text}
use Rattle.draw_steps.specs.Drawing.{prot_class}
use Rattle.draw_steps.specs.Elements.{line_text, text_front}
use Rattle.draw_steps.specs.Parts.{span_text}
use Rattle.draw_steps.specs.Style.{Shade, both_shade, exec_shade, nothing_shade, read_shade, shades, write_shade}
use Rattle.draw_steps.specs.Texts.{first_texts}
use Rattle.draw_steps.specs.declared.elements.Way.{Way}
use Rattle.draw_lives.specs.Joining.{joined_rows}
use Rattle.draw_lives.specs.Living.{lives_of}
use Rattle.draw_lives.specs.declared.drawing.Chart.{Chart}
use Rattle.draw_steps.specs.declared.moments.Recorded.{Recorded}
use Rattle.draw_steps.specs.declared.shapes.Stretch.{Stretch}

abbrev pub are_more : List Stretch → Bool
are_more lives = nat_lt 2000 (length lives)

-- the first 2,000, from the lowest pages on
abbrev pub shown : List Stretch → List Stretch
shown lives = take 2000 lives

abbrev pub row_of : Option Stretch → ℕ
row_of (Some life) = life.row + 1
row_of None = 0

-- the rows down to that of the last life
abbrev pub chart_of : ℕ → List Stretch → Chart
chart_of steps lives = record { steps = steps; rows = row_of (slice_get lives (length lives - 1)) }

abbrev pub plot_height : Chart → ℕ
plot_height chart = min (24 * chart.rows) 760

-- behind the last step
abbrev pub end_of : ℕ → ℕ
end_of steps = min (steps + 1) (2 ^ 64 - 1)

-- ---- colours

-- the edge of a life, in the colour of what its pages allow
abbrev pub edge_rule : Shade → List ℕ
edge_rule shade = concat (codes "." ∷ shade.class ∷ codes "{stroke:" ∷ shade.edge ∷ codes "}" ∷ [])

-- that colour, and behind it what they allow, at these places in a row
abbrev pub key_text : List ℕ → List ℕ → Shade → List ℕ
key_text x words shade = concat (codes "<rect x=\"" ∷ x ∷ codes "\" y=\"9\" width=\"14\" height=\"10\" class=\"" ∷ shade.class
    ∷ codes "\"/><text class=\"note\" x=\"" ∷ words ∷ codes "\" y=\"18\">" ∷ shade.name ∷ codes "</text>\n" ∷ [])

-- what backs the pages of a life: a class of its own
abbrev pub kind_class : Option Back → List ℕ
kind_class None = codes "unknown"
kind_class (Some Anon) = codes "anon"
kind_class (Some (Shared file page)) = codes "shared"
kind_class (Some (Private file page)) = codes "private"

-- the colour of such lives is so full
abbrev pub fullness_rule : List ℕ → List ℕ → List ℕ
fullness_rule class fullness = concat (codes "." ∷ class ∷ codes "{fill-opacity:" ∷ fullness ∷ codes "}" ∷ [])

abbrev pub kind_key : List ℕ → List ℕ → List ℕ → List ℕ
kind_key x words class = concat (codes "<rect x=\"" ∷ x ∷ codes "\" y=\"9\" width=\"14\" height=\"10\" class=\"write " ∷ class
    ∷ codes "\"/><text class=\"note\" x=\"" ∷ words ∷ codes "\" y=\"18\">" ∷ class ∷ codes "</text>\n" ∷ [])

-- colours say what pages allow, and shades what backs them
abbrev pub style_text : List ℕ
style_text = concat (codes "<style>\nrect{stroke-width:.5px}svg svg rect{stroke-width:.02px}\n" ∷ flat_map edge_rule shades ∷ codes "\n"
    ∷ fullness_rule (codes "anon") (codes ".3") ∷ fullness_rule (codes "private") (codes ".6") ∷ codes "\n</style>\n"
    ∷ key_text (codes "640") (codes "658") nothing_shade ∷ key_text (codes "740") (codes "758") read_shade
    ∷ key_text (codes "810") (codes "828") write_shade ∷ key_text (codes "884") (codes "902") exec_shade
    ∷ key_text (codes "970") (codes "988") both_shade ∷ kind_key (codes "1140") (codes "1158") (codes "anon")
    ∷ kind_key (codes "1220") (codes "1238") (codes "private") ∷ kind_key (codes "1320") (codes "1338") (codes "shared") ∷ [])

-- ---- text

abbrev pub count_words : Bool → ℕ → List ℕ
count_words more n = if more then codes "the first 2000 lives of mappings, by address, of more" else decimal n ++ codes " lives of mappings"

unfoldable pub head_text : Chart → Bool → ℕ → List ℕ
head_text chart more n = text_front (codes "head") 8 18 ++ count_words more n ++ concat (codes ", over " ∷ decimal chart.steps ∷ codes " steps</text>\n" ∷ [])

-- after an eighth of the steps, or several
abbrev pub tick_way : Chart → ℕ → Way
tick_way chart at = record { x1 = 504 + 150 * at; y1 = 44; x2 = 504 + 150 * at; y2 = plot_height chart + 48 }

unfoldable pub tick_text : Chart → ℕ → List ℕ
tick_text chart at = concat (line_text (codes "grid") (tick_way chart at) ∷ text_front (codes "step") (504 + 150 * at) 38
    ∷ decimal (min (chart.steps * at) (2 ^ 64 - 1) / 8) ∷ codes "</text>\n" ∷ [])

-- what a row is, for one row or for some: as many as have room
abbrev pub count_of : Chart → ℕ
count_of chart = min chart.rows 63

-- the last life of a row; the one that is known so far where none of these is the row's
abbrev pub last_of : Option Stretch → List Stretch → ℕ → Option Stretch
last_of known [] row = known
last_of known (life ∷ lives) row = last_of (if life.row == row then Some life else known) lives row

-- which pages a row has, and what they are mapped to in its last life
unfoldable pub row_text : ℕ → List ℕ → Option Stretch → List ℕ
row_text y text None = []
row_text y text (Some life) = concat (text_front (codes "page") 8 y ∷ start_of life.pages.first ∷ codes "-" ∷ start_of life.pages.end
    ∷ backing_words text life.back ∷ codes "</text>\n" ∷ [])

unfoldable pub page_text : Chart → List ℕ → List Stretch → ℕ → List ℕ
page_text chart text lives at =
    row_text (plot_height chart * at / count_of chart + 58) text (last_of None lives (chart.rows * at / count_of chart))

-- beside the drawing, which they don't reach
unfoldable pub labels_text : Chart → List ℕ → List Stretch → List ℕ
labels_text chart text lives = codes "<svg width=\"496\">\n" ++ first_texts (page_text chart text lives) (count_of chart) ++ codes "</svg>\n"

-- a drawing of its own in the picture, whose units are a step and a row; step 1 lies at its left edge
unfoldable pub frame_text : Chart → List ℕ
frame_text chart = concat (codes "<svg x=\"504\" y=\"48\" width=\"1200\" height=\"" ∷ decimal (plot_height chart)
    ∷ codes "\" viewBox=\"1 0 " ∷ decimal chart.steps ∷ codes " " ∷ decimal chart.rows ∷ codes "\" preserveAspectRatio=\"none\">\n" ∷ [])

-- where a life ends
abbrev pub life_end : Chart → Option ℕ → ℕ
life_end chart (Some step) = step
life_end chart None = end_of chart.steps

unfoldable pub rect_text : Chart → Stretch → List ℕ
rect_text chart life = concat (codes "<rect class=\"" ∷ prot_class life.prot ∷ codes " " ∷ kind_class life.back ∷ codes "\" x=\"" ∷ decimal life.begin
    ∷ codes "\" y=\"" ∷ decimal life.row ∷ codes "\" width=\"" ∷ decimal (life_end chart life.end - life.begin) ∷ codes "\" height=\"1\">" ∷ [])

-- what it says on pointing, and its end
unfoldable pub title_text : List ℕ → Stretch → List ℕ
title_text text life = concat (codes "<title>" ∷ start_of life.pages.first ∷ codes "-" ∷ start_of life.pages.end ∷ codes " " ∷ rights_text life.prot
    ∷ backing_words text life.back ∷ span_text life.begin life.end ∷ codes "</title></rect>\n" ∷ [])

unfoldable pub life_text : Chart → List ℕ → Stretch → List ℕ
life_text chart text life = rect_text chart life ++ title_text text life

unfoldable pub chart_text : Chart → List ℕ → Bool → List Stretch → List ℕ
chart_text chart text more lives = front_text 1760 (plot_height chart + 64) ++ style_text ++ head_text chart more (length lives)
    ++ first_texts (tick_text chart) 9 ++ labels_text chart text lives ++ frame_text chart ++ flat_map (life_text chart text) lives ++ codes "</svg>\n</svg>\n"

-- in as few rows
abbrev pub drawn_of : ℕ → List ℕ → List Stretch → List ℕ
drawn_of steps text lives = chart_text (chart_of steps (joined_rows (shown lives))) text (are_more lives) (joined_rows (shown lives))

-- the lives of what is mapped over so many steps, with names that the text of the trace has
abbrev pub lives_text : ℕ → List ℕ → List Recorded → List ℕ
lives_text steps text all = drawn_of steps text (lives_of all)
