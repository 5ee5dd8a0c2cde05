-- What numbers a note has by its types
use Rattle.std.specs.Prelude.{ℕ, ◌^◌, ◌<◌, ◌≤◌, ⊤}
use Rattle.vm_base.specs.declared.requests.Request.{Request}
use Rattle.vm_base.specs.declared.requests.Request.TheVariants.{Mmap, Munmap, Mprotect, Load, Store, Fetch}
use Rattle.vm_base.specs.declared.replies.Reply.{Reply}
use Rattle.vm_base.specs.declared.replies.Reply.TheVariants as Re
use Rattle.machine_model.specs.declared.event.Event.{Event}
use Rattle.machine_model.specs.declared.event.Event.TheVariants as Ev
use Rattle.machine_model.specs.declared.event.Outcome.{Outcome}
use Rattle.machine_model.specs.declared.event.Outcome.TheVariants.{Stepped, Wait, Idle, Answered, Full}
use Rattle.seats.specs.declared.noted.Noted.{Noted}

-- its numbers are below 2^64, and a byte is below 2^8
abbrev pub FitsRequest : Request → Type 0
FitsRequest (Mmap addr len prot flags file off) = (addr < 2 ^ 64) × (len < 2 ^ 64) × (file < 2 ^ 64) × (off < 2 ^ 64)
FitsRequest (Munmap addr len) = (addr < 2 ^ 64) × (len < 2 ^ 64)
FitsRequest (Mprotect addr len prot) = (addr < 2 ^ 64) × (len < 2 ^ 64)
FitsRequest (Load addr) = addr < 2 ^ 64
FitsRequest (Store addr byte) = (addr < 2 ^ 64) × (byte ≤ 255)
FitsRequest (Fetch addr) = addr < 2 ^ 64

-- its core is one of 64, and its page is below the limit
abbrev pub FitsBelow : ℕ → Event → Type 0
FitsBelow limit (Ev.Call core request) = (core < 64) × FitsRequest request
FitsBelow limit (Ev.Go core) = core < 64
FitsBelow limit (Ev.Frame core frame) = (core < 64) × (frame < 2 ^ 64)
FitsBelow limit (Ev.Guess core page) = (core < 64) × (page < limit)
FitsBelow limit (Ev.Whole core) = core < 64
FitsBelow limit (Ev.Take core) = core < 64
FitsBelow limit (Ev.Walk core page) = (core < 64) × (page < limit)
FitsBelow limit (Ev.Evict core page) = (core < 64) × (page < limit)
FitsBelow limit (Ev.Flush core) = core < 64
FitsBelow limit (Ev.Review core) = core < 64
FitsBelow limit (Ev.Fold page) = page < limit
FitsBelow limit (Ev.GiveUp core) = core < 64

-- a reply whose numbers a line can have
abbrev pub FitsReply : Reply → Type 0
FitsReply (Re.Mapped address) = address < 2 ^ 64
FitsReply Re.Done = ⊤
FitsReply (Re.Byte byte) = byte ≤ 255
FitsReply (Re.Refused errno) = ⊤
FitsReply (Re.Segv code) = ⊤
FitsReply Re.Bus = ⊤
FitsReply Re.NoFrame = ⊤
FitsReply Re.NoMemory = ⊤

-- a reply, if it is one, is such
abbrev pub FitsAnswer : Outcome → Type 0
FitsAnswer Stepped = ⊤
FitsAnswer (Wait blocker) = ⊤
FitsAnswer Idle = ⊤
FitsAnswer (Answered reply) = FitsReply reply
FitsAnswer Full = ⊤

-- the note has numbers as its types have them
pub record FitsTypes (n : Noted) : Type 0 where
  pub ticket : n.ticket < 2 ^ 64
  pub event : FitsBelow (2 ^ 64) n.event
  pub answer : FitsAnswer n.outcome
