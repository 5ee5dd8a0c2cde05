-- What a call asked for, as the program made it, and why it was refused.
use Rattle.std.specs.Prelude.{ℕ, Bool, true, false, not, ◌&&◌, List, Option, None, Some, if◌then◌else◌, codes}
use Rattle.std.specs.Str.{bytes_eq}
use Rattle.trace_text.specs.Number.{number_of}
use Rattle.trace_text.specs.Request.{◌>>=◌}
use Rattle.trace_text.specs.Words.{byte}
use Rattle.vm_base.specs.declared.requests.Flags.{Flags}
use Rattle.vm_base.specs.declared.requests.Request.{Request}
use Rattle.vm_base.specs.declared.requests.Request.TheVariants.{Mmap}
use Rattle.vm_base.specs.declared.replies.Errno.{Errno}
use Rattle.vm_base.specs.declared.replies.Errno.TheVariants.{EINVAL, ENOMEM, EACCES, EBADF, EOVERFLOW}
use Rattle.import_forms.specs.Calls.{is_plain}
use Rattle.import_forms.specs.Said.{flags_named, has_flag, lost_by, mmap_words, mprotect_said, munmap_said, prot_named, said_named}
use Rattle.import_forms.specs.Tokens.{Token, front_token, split_at_last}
use Rattle.import_forms.specs.declared.calls.Call.{Call}
use Rattle.import_forms.specs.declared.calls.Call.TheVariants as Of
use Rattle.import_forms.specs.declared.replies.RefusedCall.{RefusedCall}

-- ---- what an mmap asked for

-- an address that the program names; NULL is 0
abbrev pub hint_named : Token → Option ℕ
hint_named token = if bytes_eq token (codes "NULL") then Some 0 else number_of token

-- the mapping takes the place of what is there: MAP_FIXED, and not MAP_FIXED_NOREPLACE
abbrev pub is_fixed : Token → Bool
is_fixed token = has_flag (codes "MAP_FIXED") 16 token && not (has_flag (codes "MAP_FIXED_NOREPLACE") 1048576 token)

-- private or shared as the program asked, and of no file
abbrev pub asked_flags : Token → Flags
asked_flags token = record {
  private = (flags_named token).private;
  shared = (flags_named token).shared;
  fixed = is_fixed token;
  anon = true;
}

-- `HINT, LEN, PROT, FLAGS, ..`: the mapping at the place that the program asked for, of no file
unfoldable pub asked_mmap : List ℕ → Option Request
asked_mmap before = do
  hint ← front_token before
  words ← mmap_words before
  addr ← hint_named hint.0
  len ← number_of words.0
  if is_plain (flags_named words.2) (lost_by words.2) then Some (Mmap addr len (prot_named words.1) (asked_flags words.2) 0 0) else None

-- what the text of an mmap asks for
unfoldable pub asked_of : List ℕ → Option Request
asked_of text = do
  name ← front_token text
  parts ← split_at_last (byte (codes "=")) name.1
  asked_mmap parts.0

-- ---- what an mremap asked for

unfoldable pub move_flags : List ℕ → Option Token
move_flags text = do
  name ← front_token text
  from ← front_token name.1
  old ← front_token from.1
  new ← front_token old.1
  flags ← front_token new.1
  Some flags.0

abbrev pub fixed_by : Option Token → Bool
fixed_by None = false
fixed_by (Some flags) = has_flag (codes "MREMAP_FIXED") 2 flags

-- an mremap takes the place of what is there (MREMAP_FIXED)
abbrev pub is_fixed_move : List ℕ → Bool
is_fixed_move text = fixed_by (move_flags text)

-- ---- calls that were refused

-- the errors that a plain page map gives where it knows all mappings that a call names
abbrev pub errno_named : Token → Option Errno
errno_named name = if bytes_eq name (codes "EINVAL") then Some EINVAL
    else if bytes_eq name (codes "ENOMEM") then Some ENOMEM
    else None

-- `-1 NAME ..`
unfoldable pub errno_of : List ℕ → Option Errno
errno_of after = do
  sign ← front_token after
  name ← front_token sign.1
  if bytes_eq sign.0 (codes "-1") then errno_named name.0 else None

-- a mapping of no file
abbrev pub of_no_file : Bool → Option Request → Option Request
of_no_file true request = request
of_no_file false request = None

-- an mmap of a file may be refused for what the file is
unfoldable pub refused_mmap : List ℕ → Option Request
refused_mmap before = do
  words ← mmap_words before
  of_no_file (flags_named words.2).anon (asked_mmap before)

-- the request, of a call that failed by EINVAL
abbrev pub if_invalid : Errno → Option Request → Option Request
if_invalid EINVAL request = request
if_invalid ENOMEM request = None
if_invalid EACCES request = None
if_invalid EBADF request = None
if_invalid EOVERFLOW request = None

-- of one that failed by EINVAL or ENOMEM
abbrev pub if_either : Errno → Option Request → Option Request
if_either EINVAL request = request
if_either ENOMEM request = request
if_either EACCES request = None
if_either EBADF request = None
if_either EOVERFLOW request = None

-- EINVAL of an mmap of no file, and of munmap; both errors of mprotect
abbrev pub refused_by : Call → List ℕ → Errno → Option Request
refused_by Of.Mmap before errno = if_invalid errno (refused_mmap before)
refused_by Of.Munmap before errno = if_invalid errno (munmap_said before 0)
refused_by Of.Mprotect before errno = if_either errno (mprotect_said before 0)
refused_by Of.Brk before errno = None
refused_by Of.Mremap before errno = None
refused_by Of.Make before errno = None
refused_by Of.MakeGuest before errno = None
refused_by Of.Begin before errno = None
refused_by Of.Keyed before errno = None
refused_by Of.Advise before errno = None
refused_by Of.Size before errno = None
refused_by Of.Attach before errno = None
refused_by Of.Detach before errno = None
refused_by (Of.Lost lost) before errno = None

-- what a call asked for that was refused so, where it doesn't depend on more than the mappings
unfoldable pub refused_of : List ℕ → Option RefusedCall
refused_of text = do
  name ← front_token text
  call ← said_named name.0
  parts ← split_at_last (byte (codes "=")) name.1
  errno ← errno_of parts.1
  request ← refused_by call parts.0 errno
  Some (record { request = request; errno = errno })
