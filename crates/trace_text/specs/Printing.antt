-- What replies and outcomes are written as: addresses in hexadecimal, every other number in decimal.
use Rattle.std.specs.Prelude.{ℕ, List, ◌++◌, codes, decimal, false, if◌then◌else◌, ◌==◌, map}
use Rattle.std.specs.Fmt.{digit_glyph}
use Rattle.std.specs.Int.Digits.{digits_of}
use Rattle.std.specs.List.{filter, flat_map, range_with_len}
use Rattle.vm_base.specs.Cores.{members}
use Rattle.vm_base.specs.declared.replies.Errno.{Errno}
use Rattle.vm_base.specs.declared.replies.Errno.TheVariants.{EINVAL, ENOMEM, EACCES, EBADF, EOVERFLOW}
use Rattle.vm_base.specs.declared.replies.SegvCode.TheVariants.{MapErr, AccErr}
use Rattle.vm_base.specs.declared.replies.Reply.{Reply}
use Rattle.vm_base.specs.declared.replies.Reply.TheVariants.{Mapped, Done, Byte, Refused, Segv, Bus}
use Rattle.vm_base.specs.declared.replies.Reply.TheVariants.{NoFrame, NoMemory}

-- lower case digits in base 16, the highest first and not zero, but for zero itself
abbrev pub hexadecimal : ℕ → List ℕ
hexadecimal n = if n == 0 then codes "0" else map (digit_glyph false) (digits_of 16 n)

abbrev pub address_of : ℕ → List ℕ
address_of n = codes "0x" ++ hexadecimal n

abbrev pub refusal_of : Errno → List ℕ
refusal_of EINVAL = codes "einval"
refusal_of ENOMEM = codes "enomem"
refusal_of EACCES = codes "eacces"
refusal_of EBADF = codes "ebadf"
refusal_of EOVERFLOW = codes "eoverflow"

abbrev pub text_of : Reply → List ℕ
text_of (Mapped a) = address_of a
text_of Done = codes "done"
text_of (Byte b) = decimal b
text_of (Refused errno) = refusal_of errno
text_of (Segv MapErr) = codes "segv maperr"
text_of (Segv AccErr) = codes "segv accerr"
text_of Bus = codes "bus"
text_of NoFrame = codes "noframe"
text_of NoMemory = codes "nomemory"

-- ---- what an event came to, with its newline

-- a step, without anything to tell; nothing happened; the machine is full
abbrev pub step_text : List ℕ
step_text = codes "step\n"

abbrev pub idle_text : List ℕ
idle_text = codes "idle\n"

abbrev pub full_text : List ℕ
full_text = codes "full\n"

abbrev pub reply_text : Reply → List ℕ
reply_text reply = text_of reply ++ codes "\n"

-- a core behind a space
abbrev pub core_text : ℕ → List ℕ
core_text core = codes " " ++ decimal core

-- the cores of the set, ascending
unfoldable pub cores_text : ℕ → List ℕ
cores_text set = flat_map core_text (filter (members set) (range_with_len 0 64))

-- a wait for acknowledgements of the cores of the set
abbrev pub acks_text : ℕ → List ℕ
acks_text set = codes "wait acks" ++ cores_text set ++ codes "\n"
