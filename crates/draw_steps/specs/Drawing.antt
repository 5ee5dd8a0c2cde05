-- What shapes are written as.
use Rattle.std.specs.Prelude.{ℕ, ◌+◌, List, [], ◌∷◌, Some, if◌then◌else◌, ◌&&◌, codes, decimal}
use Rattle.std.specs.List.{concat}
use Rattle.vm_base.specs.declared.requests.Request.{Request}
use Rattle.vm_base.specs.declared.requests.Request.TheVariants.{Mmap, Munmap, Mprotect, Load, Store, Fetch}
use Rattle.vm_base.specs.declared.rights.Prot.{Prot}
use Rattle.trace_text.specs.Lists.{start_of}
use Rattle.trace_text.specs.Spelling.{rights_text}
use Rattle.draw_steps.specs.Backing.{backing_words}
use Rattle.draw_steps.specs.Elements.{circle_text, line_text, rect_text, text_front}
use Rattle.draw_steps.specs.Parts.{arguments_of, label_text, outcome_text, span_text}
use Rattle.draw_steps.specs.Places.{arrow_way, bar_place, column, lane, row_y, stretch_place}
use Rattle.draw_steps.specs.declared.moments.Deed.TheVariants.{Wait, Idle, Walk, Evict, Flush, Review}
use Rattle.draw_steps.specs.declared.places.View.{View}
use Rattle.draw_steps.specs.declared.shapes.Bar.{Bar}
use Rattle.draw_steps.specs.declared.shapes.Arrow.{Arrow}
use Rattle.draw_steps.specs.declared.shapes.Course.{Course}
use Rattle.draw_steps.specs.declared.shapes.Course.TheVariants.{Message, Acknowledgement}
use Rattle.draw_steps.specs.declared.shapes.Mark.{Mark}
use Rattle.draw_steps.specs.declared.shapes.Sign.{Sign}
use Rattle.draw_steps.specs.declared.shapes.Sign.TheVariants.{Take, Deed}
use Rattle.draw_steps.specs.declared.shapes.Stretch.{Stretch}

-- ---- bars

-- the name of a request, which is also the class of its bar
abbrev pub request_name : Request → List ℕ
request_name (Mmap addr len prot flags file off) = codes "mmap"
request_name (Munmap addr len) = codes "munmap"
request_name (Mprotect addr len prot) = codes "mprotect"
request_name (Load addr) = codes "load"
request_name (Store addr value) = codes "store"
request_name (Fetch addr) = codes "fetch"

unfoldable pub bar_text : View → Bar → List ℕ
bar_text view bar = concat (codes "<g><title>" ∷ request_name bar.request ∷ arguments_of bar.request
    ∷ outcome_text bar.begin bar.answer ∷ codes "</title>" ∷ rect_text (request_name bar.request) (bar_place view bar)
    ∷ text_front (codes "name") (column view bar.begin + 5) (lane bar.core + 44) ∷ request_name bar.request ∷ codes "</text>"
    ∷ label_text view bar.core bar.answer ∷ codes "</g>\n" ∷ [])

-- ---- arrows

abbrev pub course_class : Course → List ℕ
course_class Message = codes "told"
course_class Acknowledgement = codes "back"

abbrev pub course_words : Course → List ℕ
course_words Message = codes " asks to drop translations: core "
course_words Acknowledgement = codes " acknowledges to core "

unfoldable pub arrow_text : View → Arrow → List ℕ
arrow_text view a = concat (codes "<g><title>core " ∷ decimal a.from ∷ course_words a.course ∷ decimal a.to
    ∷ span_text a.sent (Some a.came) ∷ codes "</title>" ∷ line_text (course_class a.course) (arrow_way view a) ∷ codes "</g>\n" ∷ [])

-- ---- marks

abbrev pub sign_word : Sign → List ℕ
sign_word Take = codes "take"
sign_word (Deed Wait) = codes "waits"
sign_word (Deed Idle) = codes "idle"
sign_word (Deed Walk) = codes "walk"
sign_word (Deed Evict) = codes "evict"
sign_word (Deed Flush) = codes "flush"
sign_word (Deed Review) = codes "review"

-- the circle of a wait isn't seen
abbrev pub sign_class : Sign → List ℕ
sign_class Take = codes "take"
sign_class (Deed Wait) = codes "still"
sign_class (Deed Idle) = codes "spot"
sign_class (Deed Walk) = codes "spot"
sign_class (Deed Evict) = codes "spot"
sign_class (Deed Flush) = codes "spot"
sign_class (Deed Review) = codes "spot"

unfoldable pub mark_text : View → Mark → List ℕ
mark_text view mark = concat (codes "<g><title>core " ∷ decimal mark.core ∷ codes ", step " ∷ decimal mark.step ∷ codes "</title>"
    ∷ circle_text (sign_class mark.sign) (column view mark.step + 26) (lane mark.core + 40)
    ∷ text_front (codes "deed") (column view mark.step + 26) (lane mark.core + 63) ∷ sign_word mark.sign ∷ codes "</text></g>\n" ∷ [])

-- ---- stretches of pages

-- the colour of a row, by what its pages allow
abbrev pub prot_class : Prot → List ℕ
prot_class prot = if prot.write && prot.exec then codes "both" else if prot.write then codes "write"
    else if prot.exec then codes "exec" else if prot.read then codes "read" else codes "none"

-- with names that the text of the trace has
unfoldable pub stretch_text : View → List ℕ → Stretch → List ℕ
stretch_text view text s = concat (codes "<g><title>" ∷ start_of s.pages.first ∷ codes "-" ∷ start_of s.pages.end ∷ codes " "
    ∷ rights_text s.prot ∷ backing_words text s.back ∷ span_text s.begin s.end ∷ codes "</title>" ∷ rect_text (prot_class s.prot) (stretch_place view s)
    ∷ text_front (codes "prot") (column view s.begin + 30) (row_y view s.row + 15) ∷ rights_text s.prot ∷ codes "</text></g>\n" ∷ [])
