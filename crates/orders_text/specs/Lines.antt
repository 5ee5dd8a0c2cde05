-- What a line of a history says: an audited text's declarations, and calls with their times, or an audited text's events.
use Rattle.std.specs.Prelude.{◌≡◌, ℕ, Bool, true, false, List, Option, None, Some}
use Rattle.vm_base.specs.declared.requests.Request.{Request}
use Rattle.vm_base.specs.declared.replies.Reply.{Reply}
use Rattle.trace_text.specs.Halves.{AreHalves}
use Rattle.trace_text.specs.Line.{are_printable, line_of_words}
use Rattle.trace_text.specs.Request.{◌>>=◌, front_number}
use Rattle.trace_text.specs.Words.{Word, words_of}
use Rattle.trace_text.specs.declared.line.Line.{Line}
use Rattle.trace_text.specs.declared.line.Line.TheVariants as Of
use Rattle.audit.specs.declared.auditor.Call.{Call}
use Rattle.audit_text.specs.Grammar.{Means as AuditMeans}
use Rattle.audit_text.specs.Reading.{declaration_of}
use Rattle.audit_text.specs.Replies.{reply_of}
use Rattle.audit_text.specs.declared.reading.Said.{Said}
use Rattle.audit_text.specs.declared.reading.Said.TheVariants as Says
use Rattle.orders.specs.declared.history.Timed.{Timed}
use Rattle.orders_text.specs.declared.lines.HistoryLine.{HistoryLine}
use Rattle.orders_text.specs.declared.lines.HistoryLine.TheVariants.{Part, Timed as TimedCall, Event}

abbrev pub call_to : ℕ → Request → Reply → Call
call_to core request reply = record { core = core; request = request; reply = reply }

-- the line `cC! REQ` is a call, whose reply is the text
unfoldable pub call_of : Line → List ℕ → Option Call
call_of (Of.Now core request) text = do
  reply ← reply_of text
  Some (call_to core request reply)
call_of line text = None

abbrev pub timed_at : ℕ → ℕ → Call → Timed
timed_at begin end call = record { begin = begin; end = end; call = call }

-- The words are the begin, the end, and a line `cC! REQ`.
unfoldable pub timed_of : List Word → List ℕ → Option Timed
timed_of words text = do
  begin ← front_number words
  end ← front_number begin.1
  line ← line_of_words end.1
  call ← call_of line text
  Some (timed_at begin.0 end.0 call)

-- `BEGIN END cC! REQ = REPLY`
pub record TellsTimed (c : Timed) (bytes : List ℕ) : Type 0 where
  pub front : List ℕ
  pub text : List ℕ
  pub halves : AreHalves bytes front text
  pub is : timed_of (words_of front) text ≡ Some c

-- the line of an event, and of what it came to
abbrev pub is_event : Said → Bool
is_event (Says.Answered call) = true
is_event (Says.Waits core request) = true
is_event (Says.Ends core reply) = true
is_event (Says.StillWaits core) = true
is_event Says.Passes = true
is_event said = false

abbrev pub Means : HistoryLine → List ℕ → Type 0
Means (TimedCall c) bytes = TellsTimed c bytes
Means (Part said) bytes = declaration_of bytes ≡ Some said
Means (Event said) bytes = AuditMeans said bytes × (is_event said ≡ true)

-- the bytes of a line say this, and all are printable
abbrev pub Tells : HistoryLine → List ℕ → Type 0
Tells told bytes = (are_printable bytes ≡ true) × Means told bytes

-- it may stand only behind the line of a space
abbrev pub needs_space : HistoryLine → Bool
needs_space (TimedCall c) = true
needs_space (Event said) = true
needs_space (Part (Says.File number mode len seed)) = true
needs_space (Part said) = false
