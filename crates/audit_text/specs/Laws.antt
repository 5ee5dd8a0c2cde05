-- Laws of what the lines of an audited text say
use Rattle.std.specs.Prelude.{◌≡◌, ℕ, List, ◌++◌, codes}
use Rattle.vm_base.specs.declared.replies.Reply.{Reply}
use Rattle.vm_base.specs.declared.requests.Request.{Request}
use Rattle.trace_text.specs.Grammar.{BytesSay}
use Rattle.trace_text.specs.Printing.{text_of}
use Rattle.trace_text.specs.declared.line.Line.TheVariants.{Finish, Now}
use Rattle.audit_text.specs.Grammar.{Tells}
use Rattle.audit_text.specs.Replies.{IsReply}
use Rattle.audit_text.specs.declared.reading.Said.{Said}
use Rattle.audit_text.specs.declared.reading.Said.TheVariants.{Answered, Ends}

-- no line says two things
abbrev pub LinesSayOne : Type 0
LinesSayOne = (line : List ℕ) (said other : Said) → Tells said line → Tells other line → said ≡ other

-- a line of a trace, and behind it what it was answered
abbrev pub with_reply : List ℕ → Reply → List ℕ
with_reply line reply = line ++ (codes " = " ++ text_of reply)

-- a line that asks for a call, with a reply behind it, says just that the call was answered so
abbrev pub AnswersAreSaid : Type 0
AnswersAreSaid = (line : List ℕ) (core : ℕ) (request : Request) (reply : Reply) → BytesSay (Now core request) line → IsReply reply
    → Tells (Answered (record { core = core; request = request; reply = reply })) (with_reply line reply)

-- and one that finishes a core's call, that it was answered so
abbrev pub EndsAreSaid : Type 0
EndsAreSaid = (line : List ℕ) (core : ℕ) (reply : Reply) → BytesSay (Finish core) line → IsReply reply
    → Tells (Ends core reply) (with_reply line reply)
