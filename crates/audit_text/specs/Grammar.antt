-- The grammar of an audited text, by what a line of it says: `LINE = WHAT IT CAME TO`, where `LINE` is a trace's.
use Rattle.std.specs.Prelude.{◌≡◌, ◌⊎◌, ℕ, Bool, true, false, ◌&&◌, ◌||◌, List, Option, None, Some}
use Rattle.vm_base.specs.declared.requests.Request.{Request}
use Rattle.trace_text.specs.Grammar.{BytesSay, Says}
use Rattle.trace_text.specs.Halves.{AreHalves}
use Rattle.trace_text.specs.Line.{are_printable}
use Rattle.trace_text.specs.Words.{words_of}
use Rattle.trace_text.specs.declared.action.Action.{Action}
use Rattle.trace_text.specs.declared.action.Action.TheVariants.{Call, Go, GiveUp, Frame, Guess, Whole}
use Rattle.trace_text.specs.declared.action.Action.TheVariants.{Take, Flush, Review, Walk, Evict}
use Rattle.trace_text.specs.declared.line.Line.{Line}
use Rattle.trace_text.specs.declared.line.Line.TheVariants as Of
use Rattle.audit_text.specs.Copying.{CopiesPage}
use Rattle.audit_text.specs.Replies.{NamesReply, is_nothing, is_step, is_unanswered}
use Rattle.audit_text.specs.declared.reading.Said.{Said}
use Rattle.audit_text.specs.declared.reading.Said.TheVariants.{Blank, Space, File, Answered, Waits, Ends, StillWaits, Copies, Passes}

-- the line asks for an event that changes nothing a user sees
abbrev pub is_passed_action : Action → Bool
is_passed_action Take = true
is_passed_action Flush = true
is_passed_action Review = true
is_passed_action (Walk page) = true
is_passed_action (Evict page) = true
is_passed_action _ = false

abbrev pub is_passed : Line → Bool
is_passed (Of.Act core action) = is_passed_action action
is_passed (Of.Fold page) = true
is_passed _ = false

-- the line asks for an event, and declares nothing
abbrev pub is_event : Line → Bool
is_event Of.Blank = false
is_event (Of.Space cores frames calls) = false
is_event (Of.File number mode len seed) = false
is_event _ = true

-- the core with whose call the line goes on
abbrev pub core_stepped : ℕ → Action → Option ℕ
core_stepped core Go = Some core
core_stepped core GiveUp = Some core
core_stepped core (Frame frame) = Some core
core_stepped core (Guess page) = Some core
core_stepped core Whole = Some core
core_stepped core _ = None

abbrev pub goes_on : Line → Option ℕ
goes_on (Of.Finish core) = Some core
goes_on (Of.Act core action) = core_stepped core action
goes_on _ = None

-- a line that came to this text begins a call of the core, which has no reply yet
abbrev pub Begins : ℕ → Request → Line → List ℕ → Type 0
Begins core request line text = ((line ≡ Of.Now core request) × (is_unanswered text ≡ true))
    ⊎ ((line ≡ Of.Act core (Call request)) × (is_step text ≡ true))

-- it says nothing of calls: no user sees its step, or it did nothing
abbrev pub says_nothing : Line → List ℕ → Bool
says_nothing line text = (is_passed line && is_step text) || (is_event line && is_nothing text)

-- a line of a trace that came to this text says this
abbrev pub Comes : Said → Line → List ℕ → Type 0
Comes (Answered call) line text = (line ≡ Of.Now call.core call.request) × NamesReply call.reply text
Comes (Waits core request) line text = Begins core request line text
Comes (Ends core reply) line text = (goes_on line ≡ Some core) × NamesReply reply text
Comes (StillWaits core) line text = (goes_on line ≡ Some core) × (is_unanswered text || is_step text ≡ true)
Comes Passes line text = says_nothing line text ≡ true
Comes _ line text = ⊥

-- the line, the last ` = ` and what it came to
pub record TellsEvent (said : Said) (bytes : List ℕ) : Type 0 where
  pub front : List ℕ
  pub text : List ℕ
  pub line : Line
  pub halves : AreHalves bytes front text
  pub says : Says line (words_of front)
  pub comes : Comes said line text

abbrev pub Means : Said → List ℕ → Type 0
Means Blank bytes = BytesSay Of.Blank bytes
Means (Space cores frames calls) bytes = BytesSay (Of.Space cores frames calls) bytes
Means (File number mode len seed) bytes = BytesSay (Of.File number mode len seed) bytes
Means (Answered call) bytes = TellsEvent (Answered call) bytes
Means (Waits core request) bytes = TellsEvent (Waits core request) bytes
Means (Ends core reply) bytes = TellsEvent (Ends core reply) bytes
Means (StillWaits core) bytes = TellsEvent (StillWaits core) bytes
Means Passes bytes = TellsEvent Passes bytes
Means (Copies page) bytes = CopiesPage page (words_of bytes)

-- the bytes of a line say this, and all are printable
abbrev pub Tells : Said → List ℕ → Type 0
Tells said bytes = (are_printable bytes ≡ true) × Means said bytes
