-- Parts of which the texts of shapes are made.
use Rattle.std.specs.Prelude.{ℕ, ◌+◌, List, [], ◌∷◌, ◌++◌, Option, None, Some, codes, decimal}
use Rattle.std.specs.List.{concat}
use Rattle.vm_base.specs.declared.replies.Reply.{Reply}
use Rattle.vm_base.specs.declared.replies.Reply.TheVariants as Replies
use Rattle.vm_base.specs.declared.requests.Request.{Request}
use Rattle.vm_base.specs.declared.requests.Request.TheVariants.{Mmap, Munmap, Mprotect, Load, Store, Fetch}
use Rattle.vm_base.specs.declared.rights.Prot.{Prot}
use Rattle.trace_text.specs.Printing.{address_of, text_of}
use Rattle.trace_text.specs.Spelling.{rights_text}
use Rattle.draw_steps.specs.Backing.{backing_words}
use Rattle.draw_steps.specs.Elements.{circle_text, line_text, rect_text, text_front}
use Rattle.trace_text.specs.Pieces.{piece_text}
use Rattle.draw_steps.specs.Places.{column, lane, reply_y}
use Rattle.draw_steps.specs.declared.moments.Answer.{Answer}
use Rattle.draw_steps.specs.declared.parts.Part.{Part}
use Rattle.draw_steps.specs.declared.parts.Part.TheVariants.{Plain, Rect, Line, Circle, Text, Arguments, Outcome, Span, Backing, Label}
use Rattle.draw_steps.specs.declared.places.View.{View}

-- each behind a space
abbrev pub target_words : ℕ → List ℕ
target_words addr = concat (codes " " ∷ address_of addr ∷ [])

abbrev pub range_words : ℕ → ℕ → List ℕ
range_words addr n = concat (codes " " ∷ address_of addr ∷ codes " " ∷ decimal n ∷ [])

abbrev pub change_words : ℕ → ℕ → Prot → List ℕ
change_words addr len prot =
    concat (codes " " ∷ address_of addr ∷ codes " " ∷ decimal len ∷ codes " " ∷ rights_text prot ∷ [])

-- an address, and with it a length and rights, or the byte that is stored
abbrev pub arguments_of : Request → List ℕ
arguments_of (Mmap addr len prot flags file off) = change_words addr len prot
arguments_of (Munmap addr len) = range_words addr len
arguments_of (Mprotect addr len prot) = change_words addr len prot
arguments_of (Load addr) = target_words addr
arguments_of (Store addr value) = range_words addr value
arguments_of (Fetch addr) = target_words addr

-- over which steps something goes on
abbrev pub span_text : ℕ → Option ℕ → List ℕ
span_text begin (Some end) = concat (codes ", steps " ∷ decimal begin ∷ codes " to " ∷ decimal end ∷ [])
span_text begin None = concat (codes ", from step " ∷ decimal begin ∷ [])

-- the reply of a call, and over which steps it went on
abbrev pub outcome_text : ℕ → Option Answer → List ℕ
outcome_text begin (Some answer) =
    concat (codes " = " ∷ text_of answer.reply ∷ codes ", steps " ∷ decimal begin ∷ codes " to " ∷ decimal answer.step ∷ [])
outcome_text begin None = concat (codes ", from step " ∷ decimal begin ∷ [])

-- a fault or a refusal has a class of its own
abbrev pub reply_class : Reply → List ℕ
reply_class (Replies.Mapped addr) = codes "reply"
reply_class Replies.Done = codes "reply"
reply_class (Replies.Byte value) = codes "reply"
reply_class (Replies.Refused errno) = codes "fault"
reply_class (Replies.Segv code) = codes "fault"
reply_class Replies.Bus = codes "fault"
reply_class Replies.NoFrame = codes "fault"
reply_class Replies.NoMemory = codes "fault"

-- the reply, above the end of its bar
abbrev pub label_text : View → ℕ → Option Answer → List ℕ
label_text view core (Some answer) =
    text_front (reply_class answer.reply) (column view answer.step + 50) (lane core + reply_y answer.step)
    ++ concat (text_of answer.reply ∷ codes "</text>" ∷ [])
label_text view core None = []

abbrev pub part_text : Part → List ℕ
part_text (Plain piece) = piece_text piece
part_text (Rect class place) = rect_text class.now place
part_text (Line class way) = line_text class.now way
part_text (Circle class x y) = circle_text class.now x y
part_text (Text class x y) = text_front class.now x y
part_text (Arguments request) = arguments_of request
part_text (Outcome begin answer) = outcome_text begin answer
part_text (Span begin end) = span_text begin end
part_text (Backing text back) = backing_words text.now back
part_text (Label view core answer) = label_text view core answer
