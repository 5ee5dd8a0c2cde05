-- A line of a trace with a reply behind it says that it was answered so.
use Rattle.std.proofs.Common.{◌≡◌, ℕ, Bool, true, false, cond, List, ◌++◌, Some, None}
use Rattle.std.proofs.Common.{codes, refl, sym, ap, ◌∙◌, subst}
use Rattle.std.specs.Prelude.{nat_le, ◌&&◌}
use Rattle.std.specs.List.{list_all}
use Rattle.vm_base.specs.declared.replies.Reply.{Reply}
use Rattle.vm_base.specs.declared.requests.Request.{Request}
use Rattle.trace_text.specs.Grammar.{BytesSay, Says}
use Rattle.trace_text.specs.Line.{are_printable, is_comment}
use Rattle.trace_text.specs.Printing.{text_of}
use Rattle.trace_text.specs.Words.{words_of}
use Rattle.trace_text.specs.declared.line.Line.{Line}
use Rattle.trace_text.specs.declared.line.Line.TheVariants as Of
use Rattle.trace_text.proofs.BytesLemmas.{append_has, fits, fits_clear, fits_printable, reply_fits}
use Rattle.trace_text.proofs.LineLemmas.{said_is_read}
use Rattle.trace_text.proofs.PrintableLemmas.{read_is_printable}
use Rattle.audit_text.specs.Grammar.{Comes, TellsEvent}
use Rattle.audit_text.specs.Laws.{AnswersAreSaid, EndsAreSaid, with_reply}
use Rattle.audit_text.specs.Reading.{has_reply}
use Rattle.audit_text.specs.Replies.{IsReply, NamesReply}
use Rattle.audit_text.specs.declared.reading.Said.{Said}
use Rattle.audit_text.specs.declared.reading.Said.TheVariants.{Blank, Answered, Ends}

text_fits : (r : Reply) → IsReply r → list_all fits (text_of r) ≡ true
text_fits r h = reply_fits r (λ a e. subst IsReply e h) (λ b e. subst IsReply e h)

-- ---- lines

line_printable : (said : Line) (line : List ℕ) → Says said (words_of line) → are_printable line ≡ true
line_printable said line s = read_is_printable said line (said_is_read said (words_of line) s)

whole_printable : (said : Line) (line : List ℕ) (reply : Reply) → Says said (words_of line) → IsReply reply
    → are_printable (with_reply line reply) ≡ true
whole_printable said line reply s h =
    append_has (λ c. nat_le 32 c && nat_le c 126) line (codes " = " ++ text_of reply) (line_printable said line s)
    (fits_printable (text_of reply) (text_fits reply h))

tells : (said : Said) (of : Line) (line : List ℕ) (reply : Reply) → Says of (words_of line) → IsReply reply → Comes said of (text_of reply)
    → TellsEvent said (with_reply line reply)
tells said of line reply s h comes = record {
  front = line;
  text = text_of reply;
  line = of;
  halves = record { is = refl; clear = fits_clear (text_of reply) (text_fits reply h) };
  says = s;
  comes = comes;
}

-- a line that says something is no comment
says_now : (line : List ℕ) (core : ℕ) (request : Request) → BytesSay (Of.Now core request) line → Says (Of.Now core request) (words_of line)
says_now line core request h = go (is_comment line) h
  where
    go : (b : Bool) → cond b (Of.Now core request ≡ Of.Blank) (Says (Of.Now core request) (words_of line))
        → Says (Of.Now core request) (words_of line)
    go true h = absurd (cc)
    go false h = h

says_finish : (line : List ℕ) (core : ℕ) → BytesSay (Of.Finish core) line → Says (Of.Finish core) (words_of line)
says_finish line core h = go (is_comment line) h
  where
    go : (b : Bool) → cond b (Of.Finish core ≡ Of.Blank) (Says (Of.Finish core) (words_of line)) → Says (Of.Finish core) (words_of line)
    go true h = absurd (cc)
    go false h = h

pub answers_are_said : AnswersAreSaid
answers_are_said line core request reply h fits =
    let s = says_now line core request h in (
      whole_printable (Of.Now core request) line reply s fits,
      tells (Answered (record { core = core; request = request; reply = reply })) (Of.Now core request) line reply s fits (refl, (refl, fits)),
    )

pub ends_are_said : EndsAreSaid
ends_are_said line core reply h fits =
    let s = says_finish line core h in
    (whole_printable (Of.Finish core) line reply s fits, tells (Ends core reply) (Of.Finish core) line reply s fits (refl, (refl, fits)))

-- ---- a line that is read to its last byte

replied : (bytes front text : List ℕ) (line : Line) (reply : Reply) → bytes ≡ front ++ (codes " = " ++ text) → Says line (words_of front)
    → NamesReply reply text → are_printable bytes ≡ true
replied bytes front text line reply is says (e, fits) =
    ap are_printable (is ∙ ap (λ t. front ++ (codes " = " ++ t)) e) ∙ whole_printable line front reply says fits

pub reply_printable : (said : Said) (bytes : List ℕ) → has_reply said ≡ true → TellsEvent said bytes → are_printable bytes ≡ true
reply_printable (Answered call) bytes h t = let c = t.comes in replied bytes t.front t.text t.line call.reply t.halves.is t.says c.1
reply_printable (Ends core reply) bytes h t = let c = t.comes in replied bytes t.front t.text t.line reply t.halves.is t.says c.1
reply_printable said bytes h t = absurd (cc)

pub reply_shown : (said : Said) (bytes : List ℕ) → has_reply said ≡ true → TellsEvent said bytes
    → Some said ≡ cond (are_printable bytes) (Some said) None
reply_shown said bytes h t = sym (ap (λ b. cond b (Some said) None) (reply_printable said bytes h t))
