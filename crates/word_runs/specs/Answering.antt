-- Which replies a call may have, by what it asks for.
use Rattle.std.specs.Prelude.{Bool, true, false, not}
use Rattle.vm_base.specs.Requests.{is_access}
use Rattle.vm_base.specs.declared.replies.Reply.{Reply}
use Rattle.vm_base.specs.declared.replies.Reply.TheVariants.{Mapped, Done, Byte, Refused, Segv, Bus, NoFrame, NoMemory}
use Rattle.vm_base.specs.declared.requests.Request.{Request}
use Rattle.vm_base.specs.declared.requests.Request.TheVariants.{Mmap, Munmap, Mprotect, Load, Store, Fetch}

-- what says that it was done: of an mmap the place, of a load or fetch the byte
abbrev pub is_value : Request → Reply → Bool
is_value (Mmap addr len prot flags file off) (Mapped place) = true
is_value (Munmap addr len) Done = true
is_value (Mprotect addr len prot) Done = true
is_value (Load addr) (Byte byte) = true
is_value (Store addr byte) Done = true
is_value (Fetch addr) (Byte byte) = true
is_value request reply = false

-- accesses get signals, and changes are refused; a frame or memory may be wanting for each
abbrev pub may_answer : Request → Reply → Bool
may_answer request (Refused errno) = not (is_access request)
may_answer request (Segv code) = is_access request
may_answer request Bus = is_access request
may_answer request NoFrame = true
may_answer request NoMemory = true
may_answer request reply = is_value request reply
