-- What a text of a reply says.
use Rattle.std.specs.Prelude.{◌≡◌, ℕ, ◌^◌, ◌<◌, ◌≤◌, ⊤, ◌||◌, Bool, false, List, [], ◌∷◌, Option, None, Some}
use Rattle.std.specs.Prelude.{if◌then◌else◌, codes}
use Rattle.std.specs.Str.{bytes_eq}
use Rattle.vm_base.specs.declared.replies.Errno.TheVariants.{EINVAL, ENOMEM, EACCES, EBADF, EOVERFLOW}
use Rattle.vm_base.specs.declared.replies.SegvCode.TheVariants.{MapErr, AccErr}
use Rattle.vm_base.specs.declared.replies.Reply.{Reply}
use Rattle.vm_base.specs.declared.replies.Reply.TheVariants.{Mapped, Done, Byte, Refused, Segv, Bus, NoFrame, NoMemory}
use Rattle.trace_text.specs.Printing.{text_of}
use Rattle.trace_text.specs.Request.{◌>>=◌}
use Rattle.trace_text.specs.Values.{value_of}

-- ---- what is written so

-- there is this reply: its address has 64 bits, its byte 8
abbrev pub IsReply : Reply → Type 0
IsReply (Mapped address) = address < 2 ^ 64
IsReply (Byte b) = b ≤ 255
IsReply _ = ⊤

-- the text is just the reply's
abbrev pub NamesReply : Reply → List ℕ → Type 0
NamesReply reply text = (text ≡ text_of reply) × IsReply reply

-- it begins with `wait `: a call that came to this waits, and for whom isn't looked at
abbrev pub is_wait : List ℕ → Bool
is_wait [] = false
is_wait (a ∷ []) = false
is_wait (a ∷ b ∷ []) = false
is_wait (a ∷ b ∷ c ∷ []) = false
is_wait (a ∷ b ∷ c ∷ d ∷ []) = false
is_wait (a ∷ b ∷ c ∷ d ∷ e ∷ rest) = bytes_eq (a ∷ b ∷ c ∷ d ∷ e ∷ []) (codes "wait ")

-- a call that came to this has no reply yet: it waits, or a finish of it met its limit of steps
abbrev pub is_unanswered : List ℕ → Bool
is_unanswered text = is_wait text || bytes_eq text (codes "stuck")

-- one step was made, which answered no call
abbrev pub is_step : List ℕ → Bool
is_step text = bytes_eq text (codes "step")

-- nothing was done
abbrev pub is_nothing : List ℕ → Bool
is_nothing text = bytes_eq text (codes "idle") || bytes_eq text (codes "full")

-- ---- how it is read

-- the reply of one of the words that come last below
abbrev pub late_reply : List ℕ → Option Reply
late_reply text = if bytes_eq text (codes "eacces") then Some (Refused EACCES)
    else if bytes_eq text (codes "ebadf") then Some (Refused EBADF)
    else if bytes_eq text (codes "eoverflow") then Some (Refused EOVERFLOW)
    else if bytes_eq text (codes "bus") then Some Bus
    else if bytes_eq text (codes "noframe") then Some NoFrame
    else if bytes_eq text (codes "nomemory") then Some NoMemory else None

abbrev pub word_reply : List ℕ → Option Reply
word_reply text = if bytes_eq text (codes "done") then Some Done
    else if bytes_eq text (codes "segv maperr") then Some (Segv MapErr)
    else if bytes_eq text (codes "segv accerr") then Some (Segv AccErr)
    else if bytes_eq text (codes "einval") then Some (Refused EINVAL)
    else if bytes_eq text (codes "enomem") then Some (Refused ENOMEM)
    else if bytes_eq text (codes "eacces") then Some (Refused EACCES)
    else if bytes_eq text (codes "ebadf") then Some (Refused EBADF)
    else if bytes_eq text (codes "eoverflow") then Some (Refused EOVERFLOW)
    else if bytes_eq text (codes "bus") then Some Bus
    else if bytes_eq text (codes "noframe") then Some NoFrame
    else if bytes_eq text (codes "nomemory") then Some NoMemory else None

abbrev pub or_word : Option Reply → List ℕ → Option Reply
or_word (Some reply) text = Some reply
or_word None text = word_reply text

-- the reply that the text may be of
abbrev pub named_of : List ℕ → Option Reply
named_of text = or_word (value_of text) text

-- the reply whose text it is
unfoldable pub reply_of : List ℕ → Option Reply
reply_of text = do
  reply ← named_of text
  if bytes_eq (text_of reply) text then Some reply else None
