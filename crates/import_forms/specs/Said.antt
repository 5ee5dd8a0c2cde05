-- What the text of a call says.
use Rattle.std.specs.Prelude.{ℕ, ◌^◌, Bool, true, false, not, ◌&&◌, ◌||◌, List, [], ◌∷◌, Option, None, Some, if◌then◌else◌, ◌==◌, codes}
use Rattle.std.specs.Prelude.{drop, length, nat_le, unwrap_or}
use Rattle.std.specs.Str.{bytes_eq}
use Rattle.trace_text.specs.Number.{number_of}
use Rattle.trace_text.specs.Request.{◌>>=◌}
use Rattle.trace_text.specs.Words.{byte}
use Rattle.vm_base.specs.declared.rights.Prot.{Prot}
use Rattle.vm_base.specs.declared.requests.Flags.{Flags}
use Rattle.vm_base.specs.declared.requests.Request.{Request}
use Rattle.vm_base.specs.declared.requests.Request.TheVariants.{Mmap, Munmap, Mprotect}
use Rattle.import_forms.specs.Calls.{asked, call_named, clears, drops, flags_of, has_bit, is_plain, keyed, lost_of, lost_or_unread, rights_of}
use Rattle.import_forms.specs.Stamps.{front_thread}
use Rattle.import_forms.specs.Tokens.{Token, at_end, begins_by, front_count, front_token, from_token, occurs, only_count, split_at_last}
use Rattle.import_forms.specs.declared.calls.Call.{Call}
use Rattle.import_forms.specs.declared.calls.Call.TheVariants as Of
use Rattle.import_forms.specs.declared.calls.Outcome.{Outcome}
use Rattle.import_forms.specs.declared.calls.Outcome.TheVariants.{Gives, Fails, Unclear}
use Rattle.import_forms.specs.declared.said.Lost.{Lost}
use Rattle.import_forms.specs.declared.said.Lost.TheVariants as Lose
use Rattle.import_forms.specs.declared.said.Said.{Said}
use Rattle.import_forms.specs.declared.said.Said.TheVariants as Says

-- ---- the calls that strace alone writes so

-- those that change the space otherwise
abbrev pub memory_named : Token → Option Call
memory_named name = if bytes_eq name (codes "process_madvise") then Some Of.Advise
    else if bytes_eq name (codes "shmget") then Some Of.Size
    else if bytes_eq name (codes "shmat") then Some Of.Attach
    else if bytes_eq name (codes "shmdt") then Some Of.Detach
    else if bytes_eq name (codes "map_shadow_stack") then Some (Of.Lost Lose.Others)
    else None

abbrev pub strace_named : Token → Option Call
strace_named name = if bytes_eq name (codes "mmap2") then Some Of.Mmap
    else if bytes_eq name (codes "clone") || bytes_eq name (codes "clone3") then Some Of.Make
    else if bytes_eq name (codes "fork") then Some Of.Make
    else if bytes_eq name (codes "vfork") then Some Of.MakeGuest
    else if bytes_eq name (codes "execve") || bytes_eq name (codes "execveat") then Some Of.Begin
    else memory_named name

abbrev pub named_else : Token → Option Call → Option Call
named_else name (Some call) = Some call
named_else name None = strace_named name

abbrev pub said_named : Token → Option Call
said_named name = named_else name (call_named name)

-- the number of a thread with its name, which is all that stands here
unfoldable pub only_thread : List ℕ → Option ℕ
only_thread after = do
  first ← front_thread after
  at_end (from_token first.1) first.0

-- what isn't a bare number: that of a thread with its name, or -1 and why
abbrev pub outcome_else : List ℕ → Option ℕ → Outcome
outcome_else after (Some number) = Gives number
outcome_else after None = if begins_by (codes "-1") (from_token after) then Fails else Unclear

-- what stands behind the last sign of equality: one number, or another outcome
abbrev pub outcome_from : List ℕ → Option ℕ → Outcome
outcome_from after (Some number) = Gives number
outcome_from after None = outcome_else after (only_thread after)

-- what stands behind the equals sign
abbrev pub outcome_of : List ℕ → Outcome
outcome_of after = outcome_from after (only_count after)

-- ---- flags, by their names or by their bits

abbrev pub flag_in : List ℕ → ℕ → Token → Option ℕ → Bool
flag_in name bit token (Some bits) = has_bit bit bits
flag_in name bit token None = occurs name token

-- the token has this flag: its bit, where the token is a number, and else its name
abbrev pub has_flag : List ℕ → ℕ → Token → Bool
has_flag name bit token = flag_in name bit token (number_of token)

abbrev pub rights_in : Token → Option ℕ → Prot
rights_in token (Some bits) = rights_of bits
rights_in token None = record {
  read = occurs (codes "PROT_READ") token;
  write = occurs (codes "PROT_WRITE") token;
  exec = occurs (codes "PROT_EXEC") token;
}

-- the rights that a token names
abbrev pub prot_named : Token → Prot
prot_named token = rights_in token (number_of token)

-- MAP_SHARED stands in MAP_SHARED_VALIDATE, too
abbrev pub flags_in : Token → Option ℕ → Flags
flags_in token (Some bits) = flags_of bits
flags_in token None = record {
  private = occurs (codes "MAP_PRIVATE") token;
  shared = occurs (codes "MAP_SHARED") token;
  fixed = true;
  anon = occurs (codes "MAP_ANONYMOUS") token;
}

-- the flags that a token names, of a mapping that the kernel has placed
abbrev pub flags_named : Token → Flags
flags_named token = flags_in token (number_of token)

abbrev pub lost_in : Token → Option ℕ → Option Lost
lost_in token (Some bits) = lost_of bits
lost_in token None = if occurs (codes "MAP_HUGETLB") token then Some Lose.Huge
    else if occurs (codes "MAP_GROWSDOWN") token then Some Lose.Grows
    else None

-- what a mapping with these flags is that no trace has
abbrev pub lost_by : Token → Option Lost
lost_by token = lost_in token (number_of token)

abbrev pub growing_in : Token → Option ℕ → Bool
growing_in token (Some number) = nat_le (2 ^ 24) number
growing_in token None = occurs (codes "PROT_GROWS") token

-- rights for what grows by itself: PROT_GROWSDOWN and PROT_GROWSUP are the bits 24 and 25, and none is above
abbrev pub is_for_growing : Token → Bool
is_for_growing token = growing_in token (number_of token)

-- what stands behind a comment, `/* NAMES */`
unfoldable pub comment_end : List ℕ → Option (List ℕ)
comment_end bytes = do
  sign ← front_token bytes
  names ← front_token sign.1
  close ← front_token names.1
  if bytes_eq sign.0 (codes "/*") && bytes_eq close.0 (codes "*/") then Some close.1 else None

-- without the comment that stands first, if one does
abbrev pub past_comment : List ℕ → List ℕ
past_comment bytes = unwrap_or (comment_end bytes) bytes

-- what stands behind the first such name
abbrev pub behind : List ℕ → List ℕ → Option (List ℕ)
behind name [] = None
behind name (x ∷ xs) = if begins_by name (x ∷ xs) then Some (drop (length name) (x ∷ xs)) else behind name xs

abbrev pub front_or : Token → Option (List ℕ × List ℕ) → Token
front_or token None = token
front_or token (Some parts) = parts.0

-- what stands before the last `|`
abbrev pub before_bar : Token → Token
before_bar token = front_or token (split_at_last (byte (codes "|")) token)

-- the number behind `flags=`
unfoldable pub flags_number : List ℕ → Option ℕ
flags_number before = do
  rest ← behind (codes "flags=") before
  token ← front_token rest
  number_of (before_bar token.0)

abbrev pub made_bit : ℕ → Option ℕ → Bool
made_bit bit None = false
made_bit bit (Some bits) = has_bit bit bits

-- a call that makes a thread has this flag, by its name, or by its bit in the number of the flags
abbrev pub makes_with : List ℕ → ℕ → List ℕ → Bool
makes_with name bit before = if occurs name before then true else made_bit bit (flags_number before)

-- a thread of the same process is made, or the first one of another, which has its maker's address space or one of its own
abbrev pub making_said : List ℕ → ℕ → Said
making_said before thread = if makes_with (codes "CLONE_THREAD") 65536 before then Says.Makes thread true false
    else Says.Makes thread false (makes_with (codes "CLONE_VM") 256 before)

-- of `HINT, LEN, PROT, FLAGS, ..` length, rights, flags, and what stands behind them
unfoldable pub mmap_words : List ℕ → Option (Token × Token × Token × List ℕ)
mmap_words args = do
  hint ← front_token args
  len ← front_token hint.1
  prot ← front_token len.1
  flags ← front_token (past_comment prot.1)
  Some (len.0, prot.0, flags.0, flags.1)

-- `HINT, LEN, PROT, FLAGS, DESCRIPTOR, OFF`: a mapping at the address that the kernel gave
unfoldable pub mmap_said : List ℕ → ℕ → Option Request
mmap_said before addr = do
  parts ← split_at_last (byte (codes ",")) before
  off ← only_count parts.1
  words ← mmap_words parts.0
  len ← number_of words.0
  if is_plain (flags_named words.2) (lost_by words.2) then Some (Mmap addr len (prot_named words.1) (flags_named words.2) 0 off) else None

-- what a mapping of `HINT, LEN, PROT, FLAGS, ..` is that no trace has
unfoldable pub lost_mmap : List ℕ → Option Lost
lost_mmap before = do
  words ← mmap_words before
  lost_by words.2

-- a mapping that is read, or none
abbrev pub mapping_said : List ℕ → Option Request → Said
mapping_said before (Some request) = Says.Asks request
mapping_said before None = lost_or_unread (lost_mmap before)

abbrev pub clears_in : Token → Option ℕ → Bool
clears_in token (Some advice) = clears advice
clears_in token None = begins_by (codes "MADV_DONTNEED") token

-- advice that takes the pages of a range away at once
abbrev pub clears_pages : Token → Bool
clears_pages token = clears_in token (number_of token)

abbrev pub drops_in : Token → Option ℕ → Bool
drops_in token (Some advice) = drops advice
drops_in token None = bytes_eq token (codes "MADV_FREE") || bytes_eq token (codes "MADV_REMOVE")

-- advice that drops the bytes of pages
abbrev pub drops_bytes : Token → Bool
drops_bytes token = drops_in token (number_of token)

-- what advice says about a range
abbrev pub advice_of : ℕ → ℕ → Token → Said
advice_of addr len advice = if clears_pages advice then Says.Clears addr len
    else if drops_bytes advice then Says.Loses Lose.Drops
    else Says.Other

-- `ADDR, LEN, ADVICE`
unfoldable pub advice_said : List ℕ → Option Said
advice_said before = do
  addr ← front_count before
  len ← front_count addr.1
  advice ← front_token len.1
  Some (advice_of addr.0 len.0 advice.0)

-- `KEY, LEN, FLAGS`: shared memory of this number; of a length of 0 its size was said before
unfoldable pub size_said : List ℕ → ℕ → Option Said
size_said before number = do
  key ← front_token before
  len ← front_count (past_comment key.1)
  if len.0 == 0 then Some Says.Other else Some (Says.Sizes number len.0)

-- shared memory may be read, and written but with SHM_RDONLY, and executed with SHM_EXEC
abbrev pub prot_attached : Token → Prot
prot_attached flags = record {
  read = true;
  write = not (has_flag (codes "SHM_RDONLY") 4096 flags);
  exec = has_flag (codes "SHM_EXEC") 32768 flags;
}

-- `NUMBER, HINT, FLAGS`: shared memory at the address that the kernel gave
unfoldable pub attach_said : List ℕ → ℕ → Option Said
attach_said before addr = do
  number ← front_count before
  hint ← front_token number.1
  flags ← front_token hint.1
  Some (Says.Attaches number.0 addr (prot_attached flags.0))

-- `ADDR`
unfoldable pub detach_said : List ℕ → Option Said
detach_said before = do
  addr ← only_count before
  Some (Says.Detaches addr)

-- `ADDR, LEN`
unfoldable pub munmap_said : List ℕ → ℕ → Option Request
munmap_said before gave = do
  addr ← front_count before
  len ← only_count addr.1
  if gave == 0 then Some (Munmap addr.0 len) else None

-- `ADDR, LEN, PROT`
unfoldable pub mprotect_said : List ℕ → ℕ → Option Request
mprotect_said before gave = do
  addr ← front_count before
  len ← front_count addr.1
  prot ← front_token len.1
  if gave == 0 then (if is_for_growing prot.0 then None else Some (Mprotect addr.0 len.0 (prot_named prot.0))) else None

-- `FROM, OLD, NEW, FLAGS`: a mapping that is moved to the address that the kernel gave, and with MREMAP_DONTUNMAP, 4, stays without its pages
unfoldable pub mremap_said : List ℕ → ℕ → Option Said
mremap_said before to = do
  from ← front_count before
  old ← front_count from.1
  new ← front_count old.1
  flags ← front_token new.1
  if old.0 == 0 then None else Some (Says.Moves from.0 old.0 to new.0 (has_flag (codes "MREMAP_DONTUNMAP") 4 flags.0))

-- what a call says that gave this number, from what stands before the sign of equality
abbrev pub done_said : Call → List ℕ → ℕ → Said
done_said Of.Mmap before gave = mapping_said before (mmap_said before gave)
done_said Of.Munmap before gave = asked (munmap_said before gave)
done_said Of.Mprotect before gave = asked (mprotect_said before gave)
done_said Of.Brk before gave = Says.Breaks gave
done_said Of.Mremap before gave = unwrap_or (mremap_said before gave) Says.Unread
done_said Of.Make before gave = making_said before gave
done_said Of.MakeGuest before gave = Says.Makes gave false true
done_said Of.Begin before gave = Says.Begins
done_said Of.Keyed before gave = keyed (mprotect_said before gave)
done_said Of.Advise before gave = unwrap_or (advice_said before) Says.Unread
done_said Of.Size before gave = unwrap_or (size_said before gave) Says.Unread
done_said Of.Attach before gave = unwrap_or (attach_said before gave) Says.Unread
done_said Of.Detach before gave = unwrap_or (detach_said before) Says.Unread
done_said (Of.Lost lost) before gave = Says.Loses lost

-- what a call says that came to this: a request only where it succeeded
abbrev pub ended_said : Call → List ℕ → Outcome → Said
ended_said call before (Gives gave) = done_said call before gave
ended_said call before Fails = Says.Fails
ended_said call before Unclear = Says.Unread

-- from what stands before the last sign of equality and behind it
abbrev pub outcome_said : Call → Option (List ℕ × List ℕ) → Said
outcome_said call None = Says.Unread
outcome_said call (Some parts) = ended_said call parts.0 (outcome_of parts.1)

-- what one of these calls says
unfoldable pub known_said : List ℕ → Option Said
known_said text = do
  first ← front_token text
  call ← said_named first.0
  Some (outcome_said call (split_at_last (byte (codes "=")) first.1))

abbrev pub known_by : Option Said → Bool
known_by None = false
known_by (Some said) = true

-- the text is of one of these calls, or of a part of one
abbrev pub is_known : List ℕ → Bool
is_known text = known_by (known_said text)

-- a thread's last line, `+++ exited with STATUS +++` or the like
abbrev pub said_else : List ℕ → Said
said_else text = if begins_by (codes "+++ ") (from_token text) then Says.Ends else Says.Other

-- what the text of a call says
abbrev pub said_of : List ℕ → Said
said_of text = unwrap_or (known_said text) (said_else text)

-- the bytes from the first `<` on; `all` where there is none
abbrev pub from_sign : List ℕ → List ℕ → List ℕ
from_sign all [] = all
from_sign all (x ∷ xs) = if x == byte (codes "<") then x ∷ xs else from_sign all xs

-- what stands between the flags of an mmap and its offset
unfoldable pub file_said : List ℕ → Option (List ℕ)
file_said text = do
  whole ← split_at_last (byte (codes "=")) text
  parts ← split_at_last (byte (codes ",")) whole.0
  name ← front_token parts.0
  words ← mmap_words name.1
  Some (from_token (past_comment words.3))

-- the name that strace shows behind a descriptor, and else the descriptor itself
abbrev pub named_file : List ℕ → Option (List ℕ) → List ℕ
named_file text None = text
named_file text (Some descriptor) = from_sign descriptor descriptor

-- the path of the file that an mmap maps, from its `<` on, or where it isn't shown the descriptor
abbrev pub file_named : List ℕ → List ℕ
file_named text = named_file text (file_said text)
