-- What is written of a script that was run on threads over one machine
use Rattle.std.specs.Prelude.{◌≡◌, ℕ, suc, ◌⊎◌, List, [], ◌∷◌, ◌++◌, codes, decimal, Option, None, Some, Result, Ok, Err}
use Rattle.std.specs.List.{flat_map}
use Rattle.std.specs.Io.KnownBytes.{Keeps, Appends}
use Rattle.vm_base.specs.Log.{nth}
use Rattle.vm_base.specs.declared.log.Entry.{Entry}
use Rattle.vm_base.specs.declared.log.Entry.TheVariants.{Answer, Detach}
use Rattle.vm_base.specs.declared.replies.Reply.{Reply}
use Rattle.vm_base.specs.declared.requests.Request.{Request}
use Rattle.machine_model.specs.World.{World}
use Rattle.shared.specs.Histories.{history_of, replied}
use Rattle.shared.specs.declared.history.SeenLog.{SeenLog}
use Rattle.shared.specs.declared.history.Replied.{Replied}
use Rattle.trace_io.specs.Io.{ReadFrom, TellsSent, WrittenTo}
use Rattle.trace_io.specs.Sink.{AppendsFront}
use Rattle.trace_text.specs.Printing.{reply_text}
use Rattle.trace_words.specs.Declarations.{DeclarationView}
use Rattle.trace_words.specs.Faults.{fault_named}
use Rattle.trace_words.specs.declared.fault.TraceFault.{TraceFault}
use Rattle.trace_words.specs.declared.fault.TraceFault.TheVariants as Of
use Rattle.trace_words.specs.Scripts.{ReadWhole, Scripted, Unread}
use Rattle.trace_words.specs.Written.{declared_text, request_words, spaced}
use Rattle.shared_script.specs.Runs.{Fails, IsRun}
use Rattle.shared_script.specs.declared.fault.SharedFault.{SharedFault}
use Rattle.shared_script.specs.declared.fault.SharedFault.TheVariants.{Text}

-- ---- lines

-- `cC! REQ = REPLY`, as a replay that echoes writes it
abbrev pub call_line : ℕ → Replied → List ℕ
call_line core call = codes "c" ++ decimal core ++ codes "!" ++ spaced (request_words call.request) ++ codes " = " ++ reply_text call.reply

-- the line as a comment
abbrev pub told_line : ℕ → Replied → List ℕ
told_line core call = codes "# " ++ call_line core call

-- what each core was told, from the one with this number on
abbrev pub told_lines : ℕ → List (List Replied) → List ℕ
told_lines core [] = []
told_lines core (told ∷ more) = flat_map (told_line core) told ++ told_lines (suc core) more

-- an answer of the log is a call whose request is known
abbrev pub answer_line : ℕ → Option Request → Reply → List ℕ
answer_line core None reply = []
answer_line core (Some request) reply = call_line core (replied request reply)

-- the copy that a private page gets is no call
abbrev pub entry_line : List Request → Entry → List ℕ
entry_line requests (Answer step call core reply) = answer_line core (nth requests call) reply
entry_line requests (Detach step call page) = []

-- all calls in the order of the log
abbrev pub log_lines : SeenLog → List ℕ
log_lines h = flat_map (entry_line h.requests) h.entries

-- what is declared, what each core was told, and the log
abbrev pub shared_text : DeclarationView → List (List Replied) → SeenLog → List ℕ
shared_text asked told h = (declared_text asked ++ told_lines 0 told) ++ log_lines h

-- ---- how it ends

-- the script was run, and this is the text of it
pub record IsSharedText (script : Scripted) (text : List ℕ) : Type 0 where
  pub told : List (List Replied)
  pub world : World
  pub runs : IsRun script told world
  pub says : text ≡ shared_text script.asked told (history_of world)

-- Why nothing was written of the script, or not all: it wasn't run, or a write or a flush failed, and a front of the text went out.
pub data Ceases (script : Scripted) (old new : Option (List ℕ)) (f : SharedFault) : Type 0 where
  unrun : Fails script f → Keeps old new → Ceases script old new f
  unwritten : f ≡ Text Of.WriteFailed → (text : List ℕ) → IsSharedText script text → AppendsFront old new text → Ceases script old new f

-- the text of a script that was run was written, or not
abbrev pub Yields : {T : Type 0} → Scripted → Option (List ℕ) → Option (List ℕ) → Result T SharedFault → Type 0
Yields script old new (Ok x) = (text : List ℕ) × IsSharedText script text × Appends old new text
Yields script old new (Err f) = Ceases script old new f

-- the same of a script that is to be read, of which nothing is written before all lines were read
abbrev pub EndsShared : {T : Type 0} → List ℕ → List ℕ → Option (List ℕ) → Option (List ℕ) → Result T SharedFault → Type 0
EndsShared input unread old new (Ok x) = (script : Scripted) × ReadWhole input script × Yields script old new (Ok x)
EndsShared input unread old new (Err f) =
    ((fault : TraceFault) × (f ≡ Text fault) × Unread input unread fault × Keeps old new)
    ⊎ ((script : Scripted) × ReadWhole input script × Ceases script old new f)

-- which failures of reading and writing are told
abbrev pub TellsShared : {T : Type 0} → Result T SharedFault → ReadFrom → WrittenTo → Type 0
TellsShared r text sink = TellsSent (λ f. Text (fault_named f)) r text sink
