-- Histories whose bytes are forgotten. Each mapping is of no file, each byte is 0, and a reply that has to do with a file is forgotten, too.
use Rattle.std.specs.Prelude.{◌≡◌, ℕ, true, List, map, slice_get, Some}
use Rattle.vm_base.specs.declared.replies.Reply.{Reply}
use Rattle.vm_base.specs.declared.replies.Reply.TheVariants.{Mapped, Done, Byte, Segv, NoMemory}
use Rattle.vm_base.specs.declared.requests.Flags.{Flags}
use Rattle.vm_base.specs.declared.requests.Request.{Request}
use Rattle.vm_base.specs.declared.requests.Request.TheVariants.{Load, Store, Fetch, Mmap, Munmap, Mprotect}
use Rattle.vm_base.specs.declared.rights.Prot.{Prot}
use Rattle.vm_base.specs.Pages.{pages_of}
use Rattle.audit.specs.declared.auditor.Call.{Call}
use Rattle.orders.specs.declared.history.Timed.{Timed}
use Rattle.cores.specs.Parts.{IsPassed, pages_put}

-- whether an access was served
abbrev pub served : Reply → Reply
served (Byte byte) = Byte 0
served Done = Done
served (Segv code) = Segv code
served reply = NoMemory

-- whether a change was done
abbrev pub if_done : Reply → Reply
if_done Done = Done
if_done reply = NoMemory

-- no file, at a fixed place
abbrev pub fixed_anon : Flags → Flags
fixed_anon flags = record flags { fixed = true; anon = true }

-- a mapping of no file, where this one was put
abbrev pub mapping_left : ℕ → ℕ → Prot → Flags → Request
mapping_left at len prot flags = Mmap at len prot (fixed_anon flags) 0 0

abbrev pub request_left : Request → Reply → Request
request_left (Store addr byte) reply = Store addr 0
request_left (Mmap addr len prot flags file off) (Mapped at) = mapping_left at len prot flags
request_left request reply = request

abbrev pub reply_left : Request → Reply → Reply
reply_left (Load addr) reply = served reply
reply_left (Fetch addr) reply = served reply
reply_left (Store addr byte) reply = served reply
reply_left (Munmap addr len) reply = if_done reply
reply_left (Mprotect addr len prot) reply = if_done reply
reply_left (Mmap addr len prot flags file off) (Mapped at) = Mapped at
reply_left (Mmap addr len prot flags file off) reply = NoMemory

-- the call without its bytes
abbrev pub byteless : Call → Call
byteless c = record { core = c.core; request = request_left c.request c.reply; reply = reply_left c.request c.reply }

abbrev pub timed_byteless : Timed → Timed
timed_byteless c = record { begin = c.begin; end = c.end; call = byteless c.call }

-- a mapping of no file can be there as well
pub record FitsAt (addr len : ℕ) (prot : Prot) (flags : Flags) (at : ℕ) : Type 0 where
  pub passed : IsPassed (mapping_left at len prot flags)
  pub place : pages_of at len ≡ pages_put flags.fixed addr len at

abbrev pub Fits : Request → Reply → Type 0
Fits (Mmap addr len prot flags file off) (Mapped at) = FitsAt addr len prot flags at
Fits request reply = Unit {0}

-- These are the calls without their bytes.
pub record AreByteless (h k : List Timed) : Type 0 where
  pub same : k ≡ map timed_byteless h
  pub fit : (i : ℕ) (c : Timed) → slice_get h i ≡ Some c → Fits c.call.request c.call.reply
