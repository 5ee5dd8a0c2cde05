-- How a line is read.
use Rattle.std.specs.Prelude.{ℕ, ◌||◌, Bool, true, false, List, Option, None, Some, if◌then◌else◌}
use Rattle.vm_base.specs.declared.requests.Request.{Request}
use Rattle.vm_base.specs.declared.replies.Reply.{Reply}
use Rattle.trace_text.specs.Line.{line_of, line_of_words}
use Rattle.trace_text.specs.Request.{◌>>=◌}
use Rattle.trace_text.specs.Words.{Word, words_of}
use Rattle.trace_text.specs.declared.action.Action.{Action}
use Rattle.trace_text.specs.declared.action.Action.TheVariants.{Call, Go, GiveUp, Frame, Guess, Whole}
use Rattle.trace_text.specs.declared.line.Line.{Line}
use Rattle.trace_text.specs.declared.line.Line.TheVariants as Of
use Rattle.audit_text.specs.Copying.{copy_of}
use Rattle.audit_text.specs.Replies.{is_nothing, is_step, is_unanswered, reply_of}
use Rattle.audit_text.specs.declared.reading.Said.{Said}
use Rattle.audit_text.specs.declared.reading.Said.TheVariants.{Blank, Space, File, Answered, Waits, Ends, StillWaits, Copies, Passes}

-- what is said where the text is a reply, and else
abbrev pub told_or : Option Reply → (Reply → Said) → Option Said → Option Said
told_or (Some reply) says other = Some (says reply)
told_or None says other = other

-- what is said where it has no reply yet, and else that nothing was done, if it says so
abbrev pub if_unanswered : Bool → Said → List ℕ → Option Said
if_unanswered is_so said text = if is_so then Some said else if is_nothing text then Some Passes else None

abbrev pub answered : ℕ → Request → Reply → Said
answered core request reply = Answered (record { core = core; request = request; reply = reply })

-- a call that is made and finished
unfoldable pub call_said : ℕ → Request → List ℕ → Option Said
call_said core request text =
    told_or (reply_of text) (answered core request) (if_unanswered (is_unanswered text) (Waits core request) text)

-- one that begins
unfoldable pub begun_said : ℕ → Request → List ℕ → Option Said
begun_said core request text = if_unanswered (is_step text) (Waits core request) text

-- one that goes on
unfoldable pub end_said : ℕ → List ℕ → Option Said
end_said core text = told_or (reply_of text) (Ends core) (if_unanswered (is_unanswered text || is_step text) (StillWaits core) text)

-- an event that is no call's
unfoldable pub passed_said : List ℕ → Option Said
passed_said text = if_unanswered (is_step text) Passes text

abbrev pub act_said : ℕ → Action → List ℕ → Option Said
act_said core (Call request) text = begun_said core request text
act_said core Go text = end_said core text
act_said core GiveUp text = end_said core text
act_said core (Frame frame) text = end_said core text
act_said core (Guess page) text = end_said core text
act_said core Whole text = end_said core text
act_said core _ text = passed_said text

-- what a line of a trace that came to this text says
abbrev pub event_said : Line → List ℕ → Option Said
event_said (Of.Now core request) text = call_said core request text
event_said (Of.Finish core) text = end_said core text
event_said (Of.Act core action) text = act_said core action text
event_said (Of.Fold page) text = passed_said text
event_said line text = None

unfoldable pub said_of : List Word → List ℕ → Option Said
said_of words text = do
  line ← line_of_words words
  event_said line text

-- what a line of a trace says without a sign
abbrev pub declared_said : Line → Option Said
declared_said Of.Blank = Some Blank
declared_said (Of.Space cores frames calls) = Some (Space cores frames calls)
declared_said (Of.File number mode len seed) = Some (File number mode len seed)
declared_said _ = None

unfoldable pub declaration_of : List ℕ → Option Said
declaration_of bytes = do
  line ← line_of bytes
  declared_said line

-- that a page is copied
unfoldable pub copy_said : List ℕ → Option Said
copy_said bytes = do
  page ← copy_of (words_of bytes)
  Some (Copies page)

-- what a line without a sign says
abbrev pub or_copy : Option Said → List ℕ → Option Said
or_copy (Some said) bytes = Some said
or_copy None bytes = copy_said bytes

abbrev pub plain_said : List ℕ → Option Said
plain_said bytes = or_copy (declaration_of bytes) bytes

-- a reply stands behind the line's sign
abbrev pub has_reply : Said → Bool
has_reply (Answered call) = true
has_reply (Ends core reply) = true
has_reply _ = false
