-- Which replies a call may have, and which copies there may be: those of the plain page map, and, unless these are ruled out, those of a call that found no
-- frame or no memory. Where any place will do that may also be a mapping without MAP_FIXED that is refused (POSIX.1-2017, mmap, ENOMEM).
use Rattle.std.specs.Prelude.{◌≡◌, ◌⊎◌, ◌&&◌, ⊤, ℕ, Bool, true, false, List, [], ◌∷◌, Option, None, Some}
use Rattle.vm_base.specs.declared.requests.Request.{Request}
use Rattle.vm_base.specs.declared.requests.Request.TheVariants.{Load, Store, Fetch}
use Rattle.vm_base.specs.declared.replies.Reply.{Reply}
use Rattle.vm_base.specs.declared.replies.Errno.TheVariants.{ENOMEM}
use Rattle.vm_base.specs.declared.replies.Reply.TheVariants.{Done, Byte, Mapped, NoFrame, NoMemory, Refused}
use Rattle.vm_base.specs.Requests.{is_placed}
use Rattle.vm_base.specs.Answers.{Answers}
use Rattle.vm_base.specs.Places.{IsFirstPlace}
use Rattle.vm_base.specs.Plain.{Plain}
use Rattle.audit.specs.Copying.{Copies}
use Rattle.audit.specs.Judging.{IsGiven}
use Rattle.audit.specs.Placing.{IsAnyPlace, rule_of}
use Rattle.audit_text.specs.declared.allowing.Terms.{Terms}
use Rattle.audit_text.specs.declared.item.AuditItem.{AuditItem}
use Rattle.audit_text.specs.declared.item.AuditItem.TheVariants.{Answer, Copy}

-- an access is served where this is due
abbrev pub serves : Request → Reply → Bool
serves (Load addr) (Byte b) = true
serves (Fetch addr) (Byte b) = true
serves (Store addr b) Done = true
serves request reply = false

-- an access that the plain page map serves
abbrev pub IsServed : Plain → ℕ → Request → Type 0
IsServed t core request = (due : Reply) × (u : Plain) × (serves request due ≡ true) × Answers IsFirstPlace t core request due u

-- a mapping without MAP_FIXED for which there is a place
abbrev pub IsPlaceable : Plain → ℕ → Request → Type 0
IsPlaceable t core request = (is_placed request ≡ true) × ((addr : ℕ) × (u : Plain) × Answers IsAnyPlace t core request (Mapped addr) u)

-- What a call came to that found no frame, or no memory: an access that would be served, or any call; or, where any place will do, such a
-- mapping. It changes nothing.
abbrev pub Lacks : Bool → Plain → ℕ → Request → Reply → Plain → Type 0
Lacks any t core request NoFrame u = IsServed t core request × (u ≡ t)
Lacks any t core request NoMemory u = u ≡ t
Lacks any t core request (Refused e) u = (any ≡ true) × (e ≡ ENOMEM) × IsPlaceable t core request × (u ≡ t)
Lacks any t core request y u = ⊥

-- A core's request may be answered y, and leaves u.
abbrev pub Allows : Terms → Plain → ℕ → Request → Reply → Plain → Type 0
Allows terms t core request y u =
    Answers (rule_of terms.any_place) t core request y u ⊎ ((terms.is_strict ≡ false) × Lacks terms.any_place t core request y u)

-- A call may have its reply, or a private page that shows its file's bytes and may be stored to gets its copy.
abbrev pub MayBe : Terms → Plain → AuditItem → Plain → Type 0
MayBe terms t (Answer call) u = Allows terms t call.core call.request call.reply u
MayBe terms t (Copy page) u = Copies t page u

-- The replies and copies, one after another, may be, from t on, and leave u.
abbrev pub AreAllowed : Terms → Plain → List AuditItem → Plain → Type 0
AreAllowed terms t [] u = u ≡ t
AreAllowed terms t (i ∷ is) u = (m : Plain) × MayBe terms t i m × AreAllowed terms m is u

-- some map is left by it
abbrev pub IsAllowed : Terms → Plain → AuditItem → Type 0
IsAllowed terms t item = (u : Plain) × MayBe terms t item u

-- A plain page map would give this reply; where no copy may be, none is due.
abbrev pub IsDue : Terms → Plain → AuditItem → Option Reply → Type 0
IsDue terms t (Answer call) (Some due) = IsGiven (rule_of terms.any_place) t call.core call.request due
IsDue terms t (Answer call) None = ⊥
IsDue terms t (Copy page) (Some due) = ⊥
IsDue terms t (Copy page) None = ⊤

-- it tells where a mapping is
abbrev pub places : Reply → Bool
places (Mapped addr) = true
places y = false

-- what the code tests of a reply where this one is due
abbrev pub is_lack : Bool → Request → Reply → Reply → Bool
is_lack any request due NoFrame = serves request due
is_lack any request due NoMemory = true
is_lack any request due (Refused ENOMEM) = any && is_placed request && places due
is_lack any request due y = false

-- ---- what is counted, and what stays open

-- it found no frame or no memory
abbrev pub is_lacking : Reply → Bool
is_lacking NoFrame = true
is_lacking NoMemory = true
is_lacking y = false

-- it is the refusal of a mapping without MAP_FIXED, for want of memory
abbrev pub is_unplaced : Request → Reply → Bool
is_unplaced request (Refused ENOMEM) = is_placed request
is_unplaced request y = false

-- a store for which there was no memory may have left its private page the copy of its own that was made for it
abbrev pub is_store : Request → Bool
is_store (Store addr b) = true
is_store request = false

abbrev pub is_given_up : Reply → Bool
is_given_up NoMemory = true
is_given_up y = false
