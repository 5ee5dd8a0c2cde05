-- Replies that are tried of calls that wait when a text ends
use Rattle.std.specs.Prelude.{Bool, true, Option, Some}
use Rattle.vm_base.specs.declared.replies.Reply.{Reply}
use Rattle.vm_base.specs.declared.replies.Reply.TheVariants.{Mapped, Done, NoMemory}
use Rattle.vm_base.specs.declared.requests.Request.{Request}
use Rattle.vm_base.specs.declared.requests.Request.TheVariants.{Load, Store, Fetch, Mmap, Munmap, Mprotect}
use Rattle.orders_text.specs.declared.clock.PendingCall.{PendingCall}

-- that of a call that takes effect, as far as its request tells it; what it loads isn't known
abbrev pub effect_of : Request → Reply
effect_of (Mmap addr len prot flags file off) = Mapped addr
effect_of (Munmap addr len) = Done
effect_of (Mprotect addr len prot) = Done
effect_of (Store addr byte) = Done
effect_of (Load addr) = NoMemory
effect_of (Fetch addr) = NoMemory

-- that of a core's call, if it waits, and is to take effect
abbrev pub waiting_reply : Bool → Option PendingCall → Reply
waiting_reply true (Some b) = effect_of b.request
waiting_reply take_effect waits = NoMemory
