-- What shapes are written as
use Rattle.std.specs.Prelude.{ℕ, ◌+◌, ◌/◌, List, [], ◌∷◌, codes, decimal, if◌then◌else◌, nat_lt}
use Rattle.std.specs.List.{concat}
use Rattle.trace_text.specs.Lists.{start_of}
use Rattle.trace_text.specs.Spelling.{rights_text}
use Rattle.draw_steps.specs.Backing.{backing_words}
use Rattle.draw_steps.specs.Drawing.{course_class, course_words, prot_class, request_name}
use Rattle.draw_steps.specs.Elements.{line_text, rect_text, text_front}
use Rattle.draw_steps.specs.Parts.{arguments_of}
use Rattle.draw_steps.specs.declared.moments.Deed.{Deed}
use Rattle.draw_steps.specs.declared.moments.Deed.TheVariants.{Wait, Idle, Walk, Evict, Flush, Review}
use Rattle.draw_steps.specs.declared.moments.Moment.{Moment}
use Rattle.draw_steps.specs.declared.moments.Moment.TheVariants.{Begins, Answers, Told, Took, Did, Mapped, Unmapped}
use Rattle.draw_steps.specs.declared.moments.Pass.{Pass}
use Rattle.draw_steps.specs.declared.moments.Pass.TheVariants.{First, Second}
use Rattle.draw_steps.specs.declared.moments.Recorded.{Recorded}
use Rattle.draw_steps.specs.declared.shapes.Arrow.{Arrow}
use Rattle.draw_steps.specs.declared.shapes.Bar.{Bar}
use Rattle.draw_steps.specs.declared.shapes.Stretch.{Stretch}
use Rattle.draw_lines.specs.Bits.{after_words, answer_text, cause_text, spot_text}
use Rattle.draw_lines.specs.Places.{arrow_way, bar_place, danger_place, mark_place, middle, stretch_place}
use Rattle.draw_lines.specs.Sheet.{lane, pitch, row_y, wide}
use Rattle.draw_lines.specs.declared.dangers.Danger.{Danger}
use Rattle.draw_lines.specs.declared.sheet.Layout.{Layout}
use Rattle.draw_lines.specs.declared.sheet.Layout.TheVariants.{Wide, Narrow, Flat}
use Rattle.draw_lines.specs.declared.sheet.Sheet.{Sheet}
use Rattle.draw_lines.specs.declared.waits.Waited.{Waited}

-- ---- bars

-- where the lines of a bar begin
abbrev pub first_line : Layout → List ℕ
first_line Wide = codes "<text class=\"name\" x=\"5\" y=\"15\">"
first_line Narrow = codes "<text class=\"name\" x=\"5\" y=\"9\">"
first_line Flat = codes "<text class=\"flat\" x=\"3\" y=\"10\">"

abbrev pub second_line : Layout → List ℕ
second_line Wide = codes "</text><text class=\"what\" x=\"5\" y=\"30\">"
second_line Narrow = codes "</text><text class=\"what\" x=\"5\" y=\"19\">"
second_line Flat = []

-- a bar with its name, what it asks for, and its reply
unfoldable pub bar_text : Sheet → Bar → List ℕ
bar_text sheet bar = concat (codes "<g><title>" ∷ request_name bar.request ∷ arguments_of bar.request ∷ answer_text bar.answer
    ∷ codes "</title>" ∷ rect_text (request_name bar.request) (bar_place sheet bar) ∷ spot_text sheet bar.core bar.begin
    ∷ first_line sheet.form ∷ request_name bar.request ∷ second_line sheet.form ∷ arguments_of bar.request
    ∷ after_words sheet bar.core bar.answer ∷ codes "</g>\n" ∷ [])

-- ---- waits

abbrev pub wait_line : Layout → List ℕ
wait_line Wide = codes "<text class=\"wait\" x=\"5\" y=\"45\">"
wait_line Narrow = codes "<text class=\"wait\" x=\"5\" y=\"29\">"
wait_line Flat = codes "<text class=\"wait\" x=\"150\" y=\"10\">"

-- what a call waits for, in the column in which it does
unfoldable pub wait_text : Sheet → Waited → List ℕ
wait_text sheet w = concat (codes "<g><title>core " ∷ decimal w.core ∷ codes " " ∷ cause_text w.cause ∷ codes "</title>"
    ∷ spot_text sheet w.core w.column ∷ wait_line sheet.form ∷ cause_text w.cause ∷ codes "</text></g></g>\n" ∷ [])

-- ---- arrows and dangers

unfoldable pub arrow_text : Sheet → Arrow → List ℕ
arrow_text sheet a = concat (codes "<g><title>core " ∷ decimal a.from ∷ course_words a.course ∷ decimal a.to ∷ codes "</title>"
    ∷ line_text (course_class a.course) (arrow_way sheet a) ∷ codes "</g>\n" ∷ [])

unfoldable pub danger_text : Sheet → Danger → List ℕ
danger_text sheet d = concat (codes "<g><title>core " ∷ decimal d.core ∷ codes " may use translations that it is told to drop by core "
    ∷ decimal d.sender ∷ codes "</title>" ∷ rect_text (codes "danger") (danger_place sheet d) ∷ codes "</g>\n" ∷ [])

-- ---- marks

-- a word isn't seen where it has no room
abbrev pub deed_class : Sheet → List ℕ
deed_class sheet = if nat_lt (wide sheet) 30 then codes "hid" else codes "deed"

unfoldable pub pill_text : Sheet → ℕ → ℕ → List ℕ → List ℕ → List ℕ
pill_text sheet core number class word = concat (codes "<g><title>core " ∷ decimal core ∷ codes ": " ∷ word ∷ codes "</title>"
    ∷ rect_text class (mark_place sheet core number) ∷ text_front (deed_class sheet) (middle sheet number) (lane sheet core + pitch sheet / 2 + 3)
    ∷ word ∷ codes "</text></g>\n" ∷ [])

abbrev pub pass_word : Pass → List ℕ
pass_word First = codes "take 1"
pass_word Second = codes "take 2"

-- what a core did besides; a wait has words in its bar
abbrev pub deed_text : Sheet → ℕ → ℕ → Deed → List ℕ
deed_text sheet core number Wait = []
deed_text sheet core number Idle = pill_text sheet core number (codes "spot") (codes "idle")
deed_text sheet core number Walk = pill_text sheet core number (codes "spot") (codes "walk")
deed_text sheet core number Evict = pill_text sheet core number (codes "spot") (codes "evict")
deed_text sheet core number Flush = pill_text sheet core number (codes "spot") (codes "flush")
deed_text sheet core number Review = pill_text sheet core number (codes "spot") (codes "review")

abbrev pub mark_in : Sheet → ℕ → Moment → List ℕ
mark_in sheet number (Took core sender pass) = pill_text sheet core number (codes "take") (pass_word pass)
mark_in sheet number (Did core deed) = deed_text sheet core number deed
mark_in sheet number (Begins call core request) = []
mark_in sheet number (Answers call reply) = []
mark_in sheet number (Told core cores) = []
mark_in sheet number (Mapped pages prot back) = []
mark_in sheet number (Unmapped pages) = []

-- the mark of a take, or of something else that a core did
abbrev pub mark_text : Sheet → Recorded → List ℕ
mark_text sheet r = mark_in sheet r.step r.moment

-- ---- stretches of pages

-- with names that the text of the trace has
unfoldable pub stretch_text : Sheet → List ℕ → Stretch → List ℕ
stretch_text sheet text s = concat (codes "<g><title>" ∷ start_of s.pages.first ∷ codes "-" ∷ start_of s.pages.end ∷ codes " "
    ∷ rights_text s.prot ∷ backing_words text s.back ∷ codes "</title>" ∷ rect_text (prot_class s.prot) (stretch_place sheet s)
    ∷ text_front (codes "prot") (middle sheet s.begin + 4) (row_y sheet s.row + 14) ∷ rights_text s.prot ∷ codes "</text></g>\n" ∷ [])
