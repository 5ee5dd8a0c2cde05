-- What a call may answer, whatever other calls do
use Rattle.std.specs.Prelude.{◌≡◌, ℕ, ◌*◌, ◌⊎◌, Bool, true, false, Option, Result, Ok, Err}
use Rattle.vm_base.specs.declared.rights.Access.{Access}
use Rattle.vm_base.specs.declared.rights.Access.TheVariants as AccessOf
use Rattle.vm_base.specs.declared.rights.Mode.{Mode}
use Rattle.vm_base.specs.declared.rights.Prot.{Prot}
use Rattle.vm_base.specs.declared.replies.Errno.TheVariants.{ENOMEM, EACCES}
use Rattle.vm_base.specs.declared.replies.Reply.{Reply}
use Rattle.vm_base.specs.declared.replies.Reply.TheVariants.{Mapped, Done, Byte, Refused, Segv, Bus, NoFrame, NoMemory}
use Rattle.vm_base.specs.declared.requests.Request.{Request}
use Rattle.vm_base.specs.declared.requests.Request.TheVariants.{Mmap, Munmap, Mprotect, Load, Store, Fetch}
use Rattle.vm_base.specs.Pages.{are_pages, page_count, page_of, pages_from, window_of}
use Rattle.vm_base.specs.Runs.{LiesIn}
use Rattle.slot_lock.specs.declared.plan.Plan.{Plan}
use Rattle.vm_calls.specs.Checks.{checked}

-- a mapping of so many bytes without MAP_FIXED, which has this hint: the address of the hint's page, if all its pages are
-- valid, or an address from which on its pages lie in the core's window, or ENOMEM
pub data AnswersPlaced (core hint len : ℕ) (reply : Reply) : Type 0 where
  at_hint : are_pages (pages_from (page_of hint) (page_count len)) ≡ true → reply ≡ Mapped (page_of hint * 4096) → AnswersPlaced core hint len reply
  in_window : (first : ℕ) → LiesIn (window_of core) (page_count len) first → reply ≡ Mapped (first * 4096) → AnswersPlaced core hint len reply
  no_room : reply ≡ Refused ENOMEM → AnswersPlaced core hint len reply

-- mprotect is done, or refused where a page isn't mapped, or where write is asked for
abbrev pub AnswersProtect : Prot → Reply → Type 0
AnswersProtect prot reply = (reply ≡ Done) ⊎ ((reply ≡ Refused ENOMEM) ⊎ ((prot.write ≡ true) × (reply ≡ Refused EACCES)))

-- an access got SIGSEGV or SIGBUS, or found no frame
abbrev pub IsFault : Reply → Type 0
IsFault (Segv code) = Unit {0}
IsFault Bus = Unit {0}
IsFault NoFrame = Unit {0}
IsFault reply = ⊥

-- an access that is served: a store is done, and a load or a fetch has a byte
abbrev pub IsServed : Access → Reply → Type 0
IsServed AccessOf.Store reply = reply ≡ Done
IsServed access reply = (byte : ℕ) × (reply ≡ Byte byte)

-- mmap: with MAP_FIXED the address that was asked for
abbrev pub AnswersMapping : Bool → ℕ → ℕ → ℕ → Reply → Type 0
AnswersMapping true core addr len reply = reply ≡ Mapped addr
AnswersMapping false core addr len reply = AnswersPlaced core addr len reply

-- a request whose arguments pass
abbrev pub AnswersPassed : ℕ → Request → Reply → Type 0
AnswersPassed core (Mmap addr len prot flags file off) reply = AnswersMapping flags.fixed core addr len reply
AnswersPassed core (Munmap addr len) reply = reply ≡ Done
AnswersPassed core (Mprotect addr len prot) reply = AnswersProtect prot reply
AnswersPassed core (Load addr) reply = IsServed AccessOf.Load reply ⊎ IsFault reply
AnswersPassed core (Store addr byte) reply = IsServed AccessOf.Store reply ⊎ IsFault reply
AnswersPassed core (Fetch addr) reply = IsServed AccessOf.Fetch reply ⊎ IsFault reply

-- the reply that the arguments decide, or one of the request's
abbrev pub AnswersChecked : Result Plan Reply → ℕ → Request → Reply → Type 0
AnswersChecked (Err decided) core request reply = reply ≡ decided
AnswersChecked (Ok plan) core request reply = AnswersPassed core request reply

-- The reply is one of the core's request, where files are open in these modes: the call was given up, or its arguments
-- decide the reply, or it is one of those of a request whose arguments pass.
abbrev pub AnswersFor : (ℕ → Option Mode) → ℕ → Request → Reply → Type 0
AnswersFor modes core request reply = (reply ≡ NoMemory) ⊎ AnswersChecked (checked modes core request) core request reply
