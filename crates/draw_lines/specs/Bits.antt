-- Bits of which the texts of a picture are made
use Rattle.std.specs.Prelude.{ℕ, ◌+◌, List, [], ◌∷◌, ◌++◌, Option, None, Some, codes, decimal, if◌then◌else◌, nat_lt}
use Rattle.std.specs.List.{concat}
use Rattle.vm_base.specs.Cores.{members}
use Rattle.trace_text.specs.Printing.{text_of}
use Rattle.trace_text.specs.Pieces.{piece_text}
use Rattle.draw_steps.specs.Parts.{part_text, reply_class}
use Rattle.draw_steps.specs.Texts.{first_texts}
use Rattle.draw_steps.specs.declared.moments.Answer.{Answer}
use Rattle.draw_lines.specs.Cores.{count_members}
use Rattle.draw_lines.specs.Places.{words_y}
use Rattle.draw_lines.specs.Sheet.{column}
use Rattle.draw_lines.specs.declared.bits.Bit.{Bit}
use Rattle.draw_lines.specs.declared.bits.Bit.TheVariants as In
use Rattle.draw_lines.specs.declared.sheet.Layout.{Layout}
use Rattle.draw_lines.specs.declared.sheet.Layout.TheVariants.{Wide, Narrow, Flat}
use Rattle.draw_lines.specs.declared.sheet.Sheet.{Sheet}
use Rattle.draw_lines.specs.declared.waits.Cause.{Cause}
use Rattle.draw_lines.specs.declared.waits.Cause.TheVariants.{Lock, Acks}

-- ---- where words stand

-- upright words are turned
abbrev pub turn_words : Layout → List ℕ
turn_words Wide = codes ")\">"
turn_words Flat = codes ")\">"
turn_words Narrow = codes ") rotate(-90)\">"

unfoldable pub spot_text : Sheet → ℕ → ℕ → List ℕ
spot_text sheet core number = concat (codes "<g transform=\"translate(" ∷ decimal (column sheet number + 2) ∷ codes " "
    ∷ decimal (words_y sheet core) ∷ turn_words sheet.form ∷ [])

-- ---- replies

abbrev pub answer_text : Option Answer → List ℕ
answer_text (Some answer) = concat (codes " = " ∷ text_of answer.reply ∷ [])
answer_text None = []

-- in the same line as the words before it
unfoldable pub flat_answer : Answer → List ℕ
flat_answer answer = concat (codes "<tspan class=\"" ∷ reply_class answer.reply ∷ codes "\"> = " ∷ text_of answer.reply
    ∷ codes "</tspan></text></g>" ∷ [])

-- the third line of a bar
abbrev pub third_line : Layout → List ℕ
third_line Wide = codes "<text x=\"5\" y=\"45\" class=\""
third_line Flat = codes "<text x=\"5\" y=\"45\" class=\""
third_line Narrow = codes "<text x=\"5\" y=\"29\" class=\""

-- in a line of its own, in the column of the answer
abbrev pub reply_line : Layout → Answer → List ℕ
reply_line form answer = concat (third_line form ∷ reply_class answer.reply ∷ codes "\">= " ∷ text_of answer.reply ∷ codes "</text></g>" ∷ [])

abbrev pub own_answer : Sheet → ℕ → Answer → List ℕ
own_answer sheet core answer = codes "</text></g>" ++ spot_text sheet core answer.step ++ reply_line sheet.form answer

abbrev pub end_in : Layout → Sheet → ℕ → Answer → List ℕ
end_in Flat sheet core answer = flat_answer answer
end_in Wide sheet core answer = own_answer sheet core answer
end_in Narrow sheet core answer = own_answer sheet core answer

-- the end of the words of a bar
abbrev pub after_words : Sheet → ℕ → Option Answer → List ℕ
after_words sheet core None = codes "</text></g>"
after_words sheet core (Some answer) = end_in sheet.form sheet core answer

-- ---- waits

-- a core that is in the set, behind a space
abbrev pub listed : ℕ → ℕ → List ℕ
listed cores core = if members cores core then concat (codes " " ∷ decimal core ∷ []) else []

-- which they are, or how many, if there are more than three
abbrev pub few_text : ℕ → List ℕ
few_text cores = if nat_lt 3 (count_members (members cores) 64)
    then concat (codes " " ∷ decimal (count_members (members cores) 64) ∷ codes " cores" ∷ []) else first_texts (listed cores) 64

abbrev pub acks_text : ℕ → List ℕ
acks_text cores = codes "waits, acks:" ++ few_text cores

abbrev pub cause_text : Cause → List ℕ
cause_text (Lock core) = concat (codes "waits, lock: core " ∷ decimal core ∷ [])
cause_text (Acks cores) = acks_text cores

-- ---- bits

abbrev pub bit_text : Bit → List ℕ
bit_text (In.Plain piece) = piece_text piece
bit_text (In.Of part) = part_text part
bit_text (In.Spot sheet core number) = spot_text sheet.now core number
bit_text (In.Answer answer) = answer_text answer
bit_text (In.End sheet core answer) = after_words sheet.now core answer
bit_text (In.For cause) = cause_text cause
