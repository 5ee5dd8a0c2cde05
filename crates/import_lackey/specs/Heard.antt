-- What a line of lackey says.
use Rattle.std.specs.Prelude.{ℕ, ◌%◌, Bool, List, Option, None, Some, if◌then◌else◌, ◌==◌, nat_lt, codes, unwrap_or}
use Rattle.std.specs.Str.{bytes_eq}
use Rattle.trace_text.specs.Number.{number_of}
use Rattle.trace_text.specs.Request.{◌>>=◌}
use Rattle.trace_text.specs.Words.{byte}
use Rattle.vm_base.specs.declared.requests.Request.{Request}
use Rattle.vm_base.specs.declared.requests.Request.TheVariants.{Mmap, Munmap, Mprotect}
use Rattle.import_forms.specs.Calls.{asked, call_named, clears, drops, flags_of, has_bit, is_plain, keyed, lost_of, lost_or_unread, rights_of}
use Rattle.import_forms.specs.Tokens.{Token, front_count, front_token, hexadecimal, only_count, split_at_last, stripped}
use Rattle.import_forms.specs.declared.calls.Call.{Call}
use Rattle.import_forms.specs.declared.calls.Call.TheVariants as Of
use Rattle.import_forms.specs.declared.calls.Outcome.{Outcome}
use Rattle.import_forms.specs.declared.calls.Outcome.TheVariants.{Gives, Fails, Unclear}
use Rattle.import_forms.specs.declared.said.Lost.{Lost}
use Rattle.import_forms.specs.declared.said.Lost.TheVariants as Lose
use Rattle.import_forms.specs.declared.said.Said.{Said}
use Rattle.import_forms.specs.declared.said.Said.TheVariants as Says
use Rattle.import_lackey.specs.declared.heard.LackeyAccess.{LackeyAccess}
use Rattle.import_lackey.specs.declared.heard.LackeyAccess.TheVariants.{Fetch, Load, Store, Modify}
use Rattle.import_lackey.specs.declared.heard.LackeyTouch.{LackeyTouch}
use Rattle.import_lackey.specs.declared.heard.Heard.{Heard}
use Rattle.import_lackey.specs.declared.heard.Heard.TheVariants.{Touches, Calls}

abbrev pub access_named : Token → Option LackeyAccess
access_named name = if bytes_eq name (codes "I") then Some Fetch
    else if bytes_eq name (codes "L") then Some Load
    else if bytes_eq name (codes "S") then Some Store
    else if bytes_eq name (codes "M") then Some Modify
    else None

-- `ACCESS ADDR,SIZE`
unfoldable pub touch_heard : List ℕ → Option LackeyTouch
touch_heard line = do
  name ← front_token line
  access ← access_named name.0
  digits ← front_token name.1
  addr ← hexadecimal digits.0
  size ← only_count digits.1
  Some (record { access = access; addr = addr; size = size })

-- the call whose name stands behind `sys_`; of how much memory an attachment is isn't known
abbrev pub named_behind : Token → Option Call
named_behind name = if bytes_eq name (codes "shmat") then Some (Of.Lost Lose.Attach)
    else if bytes_eq name (codes "shmdt") then Some (Of.Lost Lose.Detach)
    else call_named name

unfoldable pub heard_named : Token → Option Call
heard_named name = do
  bare ← stripped (codes "sys_") name
  named_behind bare

-- a call answers with this word and number
abbrev pub outcome_heard : List ℕ → ℕ → Outcome
outcome_heard word number = if bytes_eq word (codes "Success") then Gives number
    else if bytes_eq word (codes "Failure") then Fails else Unclear

-- what stands at the end: a word, and a number in parentheses
unfoldable pub outcome_of : List ℕ → Option Outcome
outcome_of args = do
  parts ← split_at_last (byte (codes "(")) args
  number ← only_count parts.1
  word ← split_at_last (byte (codes " ")) parts.0
  Some (outcome_heard word.1 number)

-- the descriptor that a token spells; where there is no file it says nothing, and may be -1
abbrev pub descriptor_heard : Bool → Token → Option ℕ
descriptor_heard anon token = if anon then Some 0 else number_of token

-- of `HINT, LEN, PROT, FLAGS, ..` length, rights, flags, and what stands behind them
unfoldable pub mmap_counts : List ℕ → Option (ℕ × ℕ × ℕ × List ℕ)
mmap_counts args = do
  hint ← front_count args
  len ← front_count hint.1
  prot ← front_count len.1
  bits ← front_count prot.1
  Some (len.0, prot.0, bits.0, bits.1)

-- `HINT, LEN, PROT, FLAGS, DESCRIPTOR, OFF`: a mapping at the address that the kernel gave; MAP_SHARED_VALIDATE, 3, isn't read
unfoldable pub mmap_heard : List ℕ → ℕ → Option Request
mmap_heard args addr = do
  counts ← mmap_counts args
  token ← front_token counts.3
  file ← descriptor_heard (flags_of counts.2).anon token.0
  off ← front_count token.1
  if counts.2 % 4 == 3 then None else if is_plain (flags_of counts.2) (lost_of counts.2)
      then Some (Mmap addr counts.0 (rights_of counts.1) (flags_of counts.2) file off.0) else None

-- what a mapping of `HINT, LEN, PROT, FLAGS, ..` is that no trace has
unfoldable pub lost_mmap : List ℕ → Option Lost
lost_mmap args = do
  counts ← mmap_counts args
  lost_of counts.2

-- a mapping that is read, or none
abbrev pub mapping_heard : List ℕ → Option Request → Said
mapping_heard args (Some request) = Says.Asks request
mapping_heard args None = lost_or_unread (lost_mmap args)

-- `ADDR, LEN`
unfoldable pub munmap_heard : List ℕ → Option Request
munmap_heard args = do
  addr ← front_count args
  len ← front_count addr.1
  Some (Munmap addr.0 len.0)

-- `ADDR, LEN, PROT`
unfoldable pub mprotect_heard : List ℕ → Option Request
mprotect_heard args = do
  addr ← front_count args
  len ← front_count addr.1
  bits ← front_count len.1
  if nat_lt 7 bits.0 then None else Some (Mprotect addr.0 len.0 (rights_of bits.0))

-- `FROM, OLD, NEW, FLAGS`: a mapping that is moved to the address that the kernel gave; MREMAP_DONTUNMAP is 4
unfoldable pub mremap_heard : List ℕ → ℕ → Option Said
mremap_heard args to = do
  from ← front_count args
  old ← front_count from.1
  new ← front_count old.1
  bits ← front_count new.1
  if old.0 == 0 then None else if nat_lt 7 bits.0 then None else Some (Says.Moves from.0 old.0 to new.0 (has_bit 4 bits.0))

-- `ADDR, LEN, ADVICE`
unfoldable pub advice_heard : List ℕ → Option Said
advice_heard args = do
  addr ← front_count args
  len ← front_count addr.1
  advice ← front_count len.1
  if clears advice.0 then Some (Says.Clears addr.0 len.0)
      else if drops advice.0 then Some (Says.Loses Lose.Drops)
      else Some Says.Other

-- What a call says whose end stands in another line. What changes the address space as no trace has is told where it begins:
-- whether it fails then isn't looked for.
abbrev pub begun_heard : Call → List ℕ → Said
begun_heard Of.Advise args = unwrap_or (advice_heard args) Says.Unread
begun_heard (Of.Lost lost) args = Says.Loses lost
begun_heard call args = Says.Unread

-- what a call says that gave this number, from its arguments on
abbrev pub done_heard : Call → List ℕ → ℕ → Said
done_heard Of.Mmap args gave = mapping_heard args (mmap_heard args gave)
done_heard Of.Munmap args gave = asked (munmap_heard args)
done_heard Of.Mprotect args gave = asked (mprotect_heard args)
done_heard Of.Brk args gave = Says.Breaks gave
done_heard Of.Mremap args gave = unwrap_or (mremap_heard args gave) Says.Unread
done_heard Of.Keyed args gave = keyed (mprotect_heard args)
done_heard call args gave = begun_heard call args

abbrev pub call_heard : Call → List ℕ → Option Outcome → Said
call_heard call args (Some (Gives gave)) = done_heard call args gave
call_heard call args (Some Fails) = Says.Fails
call_heard call args (Some Unclear) = Says.Unread
call_heard call args None = begun_heard call args

-- `SYSCALL[PROCESS,THREAD](NUMBER) NAME ( ARGS )`, and how it ended
unfoldable pub known_heard : List ℕ → Option Said
known_heard line = do
  first ← front_token line
  process ← front_token first.1
  thread ← front_token process.1
  number ← front_token thread.1
  name ← front_token number.1
  call ← heard_named name.0
  if bytes_eq first.0 (codes "SYSCALL") then Some (call_heard call name.1 (outcome_of name.1)) else None

abbrev pub heard_from : Option LackeyTouch → Option Said → Heard
heard_from (Some touch) said = Touches touch
heard_from None said = Calls (unwrap_or said Says.Other)

-- what a line says
abbrev pub heard_of : List ℕ → Heard
heard_of line = heard_from (touch_heard line) (known_heard line)
