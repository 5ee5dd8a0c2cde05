-- What the words of an outcome say.
use Rattle.std.specs.Prelude.{ℕ, suc, List, [], ◌∷◌, Option, None, Some}
use Rattle.std.specs.Prelude.{if◌then◌else◌, nat_lt, codes}
use Rattle.std.specs.Str.{bytes_eq}
use Rattle.vm_base.specs.Cores.{with_member}
use Rattle.vm_base.specs.declared.replies.Errno.TheVariants.{EINVAL, ENOMEM, EACCES, EBADF, EOVERFLOW}
use Rattle.vm_base.specs.declared.replies.SegvCode.TheVariants.{MapErr, AccErr}
use Rattle.vm_base.specs.declared.replies.Reply.{Reply}
use Rattle.vm_base.specs.declared.replies.Reply.TheVariants.{Done, Refused, Segv, Bus}
use Rattle.vm_base.specs.declared.replies.Reply.TheVariants.{NoFrame, NoMemory}
use Rattle.machine_model.specs.declared.event.Blocker.TheVariants.{Slot, Acks}
use Rattle.machine_model.specs.declared.event.Outcome.{Outcome}
use Rattle.machine_model.specs.declared.event.Outcome.TheVariants.{Stepped, Wait, Idle, Answered, Full}
use Rattle.trace_text.specs.Words.{Word, front_word}
use Rattle.trace_text.specs.Request.{◌>>=◌, ended}
use Rattle.trace_text.specs.Line.{core_number}
use Rattle.trace_text.specs.Values.{value_of}

-- an outcome of one word that is no number
abbrev pub single_of : Word → Option Outcome
single_of word = if bytes_eq word (codes "step") then Some Stepped
    else if bytes_eq word (codes "idle") then Some Idle
    else if bytes_eq word (codes "full") then Some Full
    else if bytes_eq word (codes "done") then Some (Answered Done)
    else if bytes_eq word (codes "einval") then Some (Answered (Refused EINVAL))
    else if bytes_eq word (codes "enomem") then Some (Answered (Refused ENOMEM))
    else if bytes_eq word (codes "eacces") then Some (Answered (Refused EACCES))
    else if bytes_eq word (codes "ebadf") then Some (Answered (Refused EBADF))
    else if bytes_eq word (codes "eoverflow") then Some (Answered (Refused EOVERFLOW))
    else if bytes_eq word (codes "bus") then Some (Answered Bus)
    else if bytes_eq word (codes "noframe") then Some (Answered NoFrame)
    else if bytes_eq word (codes "nomemory") then Some (Answered NoMemory) else None

-- what is said, if no word is left
abbrev pub alone : {A : Type 0} → List Word → Option A → Option A
alone [] said = said
alone (w ∷ ws) said = None

-- the set, and the cores of the words, each above those before it
abbrev pub cores_from : ℕ → ℕ → List Word → Option ℕ
cores_from least set [] = Some set
cores_from least set (w ∷ ws) = core_number w >>= λ core.
    if nat_lt core least then None else cores_from (suc core) (with_member set core) ws

-- a wait for the cores that are listed in rising order, one at least
abbrev pub acks_of : List Word → Option Outcome
acks_of [] = None
acks_of (w ∷ ws) = cores_from 0 0 (w ∷ ws) >>= λ set. Some (Wait (Acks set))

unfoldable pub slot_of : List Word → Option Outcome
slot_of words = do
  first ← front_word words
  core ← core_number first.0
  ended first.1 (Wait (Slot core))

unfoldable pub wait_of : List Word → Option Outcome
wait_of words = do
  kind ← front_word words
  if bytes_eq kind.0 (codes "slot") then slot_of kind.1
      else if bytes_eq kind.0 (codes "acks") then acks_of kind.1 else None

unfoldable pub segv_of : List Word → Option Outcome
segv_of words = do
  code ← front_word words
  if bytes_eq code.0 (codes "maperr") then ended code.1 (Answered (Segv MapErr))
      else if bytes_eq code.0 (codes "accerr") then ended code.1 (Answered (Segv AccErr)) else None

-- an outcome that is no number, by its name and the words behind it
abbrev pub named_of : Word → List Word → Option Outcome
named_of name rest = if bytes_eq name (codes "wait") then wait_of rest
    else if bytes_eq name (codes "segv") then segv_of rest
    else alone rest (single_of name)

-- a reply, or one of the outcomes that have no value
abbrev pub valued : Option Reply → Word → List Word → Option Outcome
valued (Some reply) name rest = ended rest (Answered reply)
valued None name rest = named_of name rest

unfoldable pub outcome_of : List Word → Option Outcome
outcome_of words = do
  name ← front_word words
  valued (value_of name.0) name.0 name.1
