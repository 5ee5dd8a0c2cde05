-- The codes of events and outcomes
use Rattle.std.specs.Prelude.{ℕ, zero, suc, ◌-◌, nat_lt, if◌then◌else◌, List, [], ◌∷◌, slice_get, Option, None, Some}
use Rattle.vm_base.specs.declared.rights.Prot.{Prot}
use Rattle.vm_base.specs.declared.requests.Flags.{Flags}
use Rattle.vm_base.specs.declared.requests.Request.{Request}
use Rattle.vm_base.specs.declared.requests.Request.TheVariants as Asks
use Rattle.vm_base.specs.declared.replies.Errno.{Errno}
use Rattle.vm_base.specs.declared.replies.Errno.TheVariants.{EINVAL, ENOMEM, EACCES, EBADF, EOVERFLOW}
use Rattle.vm_base.specs.declared.replies.SegvCode.TheVariants.{MapErr, AccErr}
use Rattle.vm_base.specs.declared.replies.Reply.{Reply}
use Rattle.vm_base.specs.declared.replies.Reply.TheVariants as By
use Rattle.machine_model.specs.declared.event.Event.{Event}
use Rattle.machine_model.specs.declared.event.Event.TheVariants as Ev
use Rattle.machine_model.specs.declared.event.Outcome.{Outcome}
use Rattle.machine_model.specs.declared.event.Outcome.TheVariants.{Stepped, Wait, Idle, Answered, Full}
use Rattle.machine_model.specs.declared.event.Blocker.TheVariants as On
use Rattle.core_steps.specs.declared.machine.Finished.{Finished}
use Rattle.core_steps.specs.declared.machine.Finished.TheVariants.{Last, Stuck}
use Rattle.coded.specs.declared.codes.EventCode.{EventCode}
use Rattle.coded.specs.declared.codes.EventCode.TheVariants as Is
use Rattle.coded.specs.declared.codes.RawEvent.{RawEvent}
use Rattle.coded.specs.declared.codes.RawOutcome.{RawOutcome}
use Rattle.coded.specs.declared.codes.BatchItem.{BatchItem}
use Rattle.coded.specs.declared.codes.BatchItem.TheVariants as To
use Rattle.coded.specs.Bits.{prot_of, flags_of, bits_of_prot, bits_of_flags}

-- ---- what C writes

-- all kinds of events, in the order of their codes, from 1 on
abbrev pub kinds : List EventCode
kinds = Is.Mmap ∷ Is.Munmap ∷ Is.Mprotect ∷ Is.Load ∷ Is.Store ∷ Is.Fetch ∷ Is.Go ∷ Is.Frame
    ∷ Is.Guess ∷ Is.Whole ∷ Is.Take ∷ Is.Walk ∷ Is.Evict ∷ Is.Flush ∷ Is.Review ∷ Is.Fold
    ∷ Is.GiveUp ∷ Is.Finish ∷ []

abbrev pub kind_of : ℕ → Option EventCode
kind_of zero = None
kind_of (suc n) = slice_get kinds n

abbrev pub core_of : ℕ → Option ℕ
core_of n = if nat_lt n 64 then Some n else None

abbrev pub mmap_with : RawEvent → Option Prot → Option Flags → Option Request
mmap_with r (Some prot) (Some flags) = Some (Asks.Mmap r.at r.len prot flags r.file r.off)
mmap_with r (Some prot) None = None
mmap_with r None flags = None

abbrev pub mprotect_with : RawEvent → Option Prot → Option Request
mprotect_with r (Some prot) = Some (Asks.Mprotect r.at r.len prot)
mprotect_with r None = None

-- the request of an event of this kind, if it is a call whose rights, flags and byte are in range
abbrev pub request_at : EventCode → RawEvent → Option Request
request_at Is.Mmap r = mmap_with r (prot_of r.prot) (flags_of r.flags)
request_at Is.Munmap r = Some (Asks.Munmap r.at r.len)
request_at Is.Mprotect r = mprotect_with r (prot_of r.prot)
request_at Is.Load r = Some (Asks.Load r.at)
request_at Is.Store r = if nat_lt r.byte 256 then Some (Asks.Store r.at r.byte) else None
request_at Is.Fetch r = Some (Asks.Fetch r.at)
request_at _ r = None

abbrev pub call_of : ℕ → Option Request → Option Event
call_of core (Some request) = Some (Ev.Call core request)
call_of core None = None

-- the event of this kind; a batch of events has no Finish
abbrev pub event_at : EventCode → ℕ → RawEvent → Option Event
event_at Is.Go core r = Some (Ev.Go core)
event_at Is.Frame core r = Some (Ev.Frame core r.at)
event_at Is.Guess core r = Some (Ev.Guess core r.at)
event_at Is.Whole core r = Some (Ev.Whole core)
event_at Is.Take core r = Some (Ev.Take core)
event_at Is.Walk core r = Some (Ev.Walk core r.at)
event_at Is.Evict core r = Some (Ev.Evict core r.at)
event_at Is.Flush core r = Some (Ev.Flush core)
event_at Is.Review core r = Some (Ev.Review core)
event_at Is.Fold core r = Some (Ev.Fold r.at)
event_at Is.GiveUp core r = Some (Ev.GiveUp core)
event_at Is.Finish core r = None
event_at kind core r = call_of core (request_at kind r)

-- an event of this kind by this core, if both are there
abbrev pub event_with : RawEvent → Option EventCode → Option ℕ → Option Event
event_with r (Some kind) (Some core) = event_at kind core r
event_with r (Some kind) None = None
event_with r None core = None

-- the event that C wrote, if its kind, its core and what it has besides are in range
abbrev pub event_of : RawEvent → Option Event
event_of r = event_with r (kind_of r.kind) (core_of r.core)

-- in a batch of calls a call is made whole
abbrev pub item_of_event : Event → BatchItem
item_of_event (Ev.Call core request) = To.Call core request
item_of_event event = To.Step event

abbrev pub item_from : Option Event → Option BatchItem
item_from (Some event) = Some (item_of_event event)
item_from None = None

-- the item of a kind: the rest of a call, or what its event asks for
abbrev pub item_at : EventCode → ℕ → RawEvent → Option BatchItem
item_at Is.Finish core r = Some (To.Finish core)
item_at kind core r = item_from (event_at kind core r)

abbrev pub item_with : RawEvent → Option EventCode → Option ℕ → Option BatchItem
item_with r (Some kind) (Some core) = item_at kind core r
item_with r (Some kind) None = None
item_with r None core = None

abbrev pub step_from : Option Event → Option BatchItem
step_from (Some event) = Some (To.Step event)
step_from None = None

-- what is added to the code of an event that is to be one step in a batch of calls too
abbrev pub begin : ℕ
begin = 64

-- what the event that C wrote asks for in a batch of calls
abbrev pub item_of : RawEvent → Option BatchItem
item_of r =
    if nat_lt r.kind begin then item_with r (kind_of r.kind) (core_of r.core)
    else step_from (event_with r (kind_of (r.kind - begin)) (core_of r.core))

-- ---- what is written for a call

abbrev pub nothing : RawEvent
nothing = record {
  kind = 0;
  core = 0;
  at = 0;
  len = 0;
  file = 0;
  off = 0;
  prot = 0;
  flags = 0;
  byte = 0;
}

-- an event that names its core alone
abbrev pub of_core : ℕ → ℕ → RawEvent
of_core kind core = record nothing { kind = kind; core = core }

-- an event that names its core and a place
abbrev pub of_place : ℕ → ℕ → ℕ → RawEvent
of_place kind core at = record nothing { kind = kind; core = core; at = at }

abbrev pub call_code : ℕ → Request → RawEvent
call_code core (Asks.Mmap addr len prot flags file off) = record {
  kind = 1;
  core = core;
  at = addr;
  len = len;
  file = file;
  off = off;
  prot = bits_of_prot prot;
  flags = bits_of_flags flags;
  byte = 0;
}
call_code core (Asks.Munmap addr len) = record (of_place 2 core addr) { len = len }
call_code core (Asks.Mprotect addr len prot) =
    record (of_place 3 core addr) { len = len; prot = bits_of_prot prot }
call_code core (Asks.Load addr) = of_place 4 core addr
call_code core (Asks.Store addr byte) = record (of_place 5 core addr) { byte = byte }
call_code core (Asks.Fetch addr) = of_place 6 core addr

-- ---- what C reads

-- the numbers of Linux (asm-generic/errno-base.h and errno.h)
abbrev pub errno_code : Errno → ℕ
errno_code EBADF = 9
errno_code ENOMEM = 12
errno_code EACCES = 13
errno_code EINVAL = 22
errno_code EOVERFLOW = 75

-- an outcome of this kind with this value
abbrev pub coded : ℕ → ℕ → RawOutcome
coded kind value = record { kind = kind; value = value }

abbrev pub reply_code : Reply → RawOutcome
reply_code (By.Mapped at) = coded 6 at
reply_code By.Done = coded 7 0
reply_code (By.Byte byte) = coded 8 byte
reply_code (By.Refused errno) = coded 9 (errno_code errno)
reply_code (By.Segv MapErr) = coded 10 0
reply_code (By.Segv AccErr) = coded 11 0
reply_code By.Bus = coded 12 0
reply_code By.NoFrame = coded 13 0
reply_code By.NoMemory = coded 14 0

-- a set of cores is told as the number whose bit c is core c
abbrev pub outcome_code : Outcome → RawOutcome
outcome_code Stepped = coded 1 0
outcome_code (Wait (On.Slot core)) = coded 2 core
outcome_code (Wait (On.Acks cores)) = coded 3 cores
outcome_code Idle = coded 4 0
outcome_code Full = coded 5 0
outcome_code (Answered reply) = reply_code reply

abbrev pub finished_code : Finished → RawOutcome
finished_code (Last outcome) = outcome_code outcome
finished_code Stuck = coded 15 0
