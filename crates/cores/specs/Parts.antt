-- What calls do within some pages
use Rattle.std.specs.Prelude.{◌≡◌, ℕ, ◌*◌, ◌||◌, not, nat_le, Bool, true, false, if◌then◌else◌, None}
use Rattle.vm_base.specs.declared.page.PageRange.{PageRange}
use Rattle.vm_base.specs.declared.replies.Reply.{Reply}
use Rattle.vm_base.specs.declared.replies.Reply.TheVariants.{Mapped, Done, NoFrame, NoMemory}
use Rattle.vm_base.specs.declared.requests.Flags.{Flags}
use Rattle.vm_base.specs.declared.requests.Request.{Request}
use Rattle.vm_base.specs.declared.rights.Prot.{Prot}
use Rattle.vm_base.specs.declared.requests.Request.TheVariants.{Load, Store, Fetch, Mmap, Munmap, Mprotect}
use Rattle.vm_base.specs.Functions.{has}
use Rattle.vm_base.specs.Pages.{page_of, page_count, pages_from, pages_of}
use Rattle.vm_base.specs.Refusals.{refusal}
use Rattle.audit.specs.declared.auditor.Call.{Call}

-- ---- calls that change nothing there

-- it says that the call changed nothing
abbrev pub is_quiet : Reply → Bool
is_quiet (Mapped at) = false
is_quiet Done = false
is_quiet reply = true

-- two ranges of which one ends before the other begins
abbrev pub are_apart : PageRange → PageRange → Bool
are_apart r p = nat_le r.end p.first || nat_le p.end r.first

-- where a mapping is that was put at this address: where it was asked for, or so many pages from there on
abbrev pub pages_put : Bool → ℕ → ℕ → ℕ → PageRange
pages_put fixed addr len at = if fixed then pages_of addr len else pages_from (page_of at) (page_count len)

-- a call that was done has to do with other pages alone
abbrev pub misses : PageRange → Request → Reply → Bool
misses p (Mmap addr len prot flags file off) (Mapped at) = are_apart (pages_put flags.fixed addr len at) p
misses p (Munmap addr len) reply = are_apart (pages_of addr len) p
misses p (Mprotect addr len prot) reply = are_apart (pages_of addr len) p
misses p (Store addr byte) reply = not (has p (page_of addr))
misses p request reply = false

-- the call changes none of these pages
abbrev pub is_aside : PageRange → Call → Bool
is_aside p c = is_quiet c.reply || misses p c.request c.reply

-- ---- what a call does there, as a call of its own

-- these pages are those that the range has of the others
pub record IsMeet (m r p : PageRange) : Type 0 where
  pub same : (x : ℕ) → has p x ≡ true → has m x ≡ has r x
  pub within : (x : ℕ) → has m x ≡ true → has p x ≡ true

-- the test of its arguments doesn't refuse it, whatever files there are
abbrev pub IsPassed : Request → Type 0
IsPassed request = refusal (λ k. None) request ≡ None

-- the reply tells something of the map
abbrev pub is_told : Reply → Bool
is_told NoFrame = false
is_told NoMemory = false
is_told reply = true

-- an access of these pages
abbrev pub IsAccess : PageRange → ℕ → Reply → Type 0
IsAccess p addr reply = (has p (page_of addr) ≡ true) × (is_told reply ≡ true)

-- a mapping of no file, and one for the pages that it has of these
pub record IsMappedPart (p : PageRange) (addr len : ℕ) (prot1 : Prot) (flags : Flags) (file off : ℕ) (y : Reply)
    (a l : ℕ) (prot2 : Prot) (flags2 : Flags) (file2 off2 : ℕ) (z : Reply) : Type 0 where
  pub at : ℕ
  pub mapped : y ≡ Mapped at
  pub replied : z ≡ Mapped ((pages_of a l).first * 4096)
  pub prot : prot2 ≡ prot1
  pub anon : flags.anon ≡ true
  pub is_anon : flags2.anon ≡ true
  pub is_fixed : flags2.fixed ≡ true
  pub whole : IsPassed (Mmap addr len prot1 flags file off)
  pub passed : IsPassed (Mmap a l prot2 flags2 file2 off2)
  pub meet : IsMeet (pages_of a l) (pages_put flags.fixed addr len at) p

-- a call, and one for the pages that it has of these
abbrev pub IsPartOf : PageRange → Request → Reply → Request → Reply → Type 0
IsPartOf p (Load addr) y r z = IsAccess p addr y × (r ≡ Load addr) × (z ≡ y)
IsPartOf p (Fetch addr) y r z = IsAccess p addr y × (r ≡ Fetch addr) × (z ≡ y)
IsPartOf p (Store addr byte) y r z = IsAccess p addr y × (r ≡ Store addr byte) × (z ≡ y)
IsPartOf p (Munmap addr len) y (Munmap a l) z =
    (y ≡ Done) × (z ≡ Done) × IsPassed (Munmap addr len) × IsPassed (Munmap a l) × IsMeet (pages_of a l) (pages_of addr len) p
IsPartOf p (Mprotect addr len prot) y (Mprotect a l prot2) z =
    (y ≡ Done) × (z ≡ Done) × (prot2 ≡ prot) × IsPassed (Mprotect addr len prot) × IsPassed (Mprotect a l prot2)
    × IsMeet (pages_of a l) (pages_of addr len) p
IsPartOf p (Mmap addr len prot flags file off) y (Mmap a l prot2 flags2 file2 off2) z =
    IsMappedPart p addr len prot flags file off y a l prot2 flags2 file2 off2 z
IsPartOf p request y r z = ⊥

-- This is what the call does within these pages.
pub record IsPart (p : PageRange) (c d : Call) : Type 0 where
  pub core : d.core ≡ c.core
  pub part : IsPartOf p c.request c.reply d.request d.reply

-- all of them are mapped anew, or unmapped
abbrev pub Has : PageRange → PageRange → Type 0
Has r p = (x : ℕ) → has p x ≡ true → has r x ≡ true

abbrev pub IsReset : PageRange → Request → Reply → Type 0
IsReset p (Munmap addr len) y = Has (pages_of addr len) p
IsReset p (Mmap addr len prot flags file off) (Mapped at) = Has (pages_put flags.fixed addr len at) p
IsReset p request y = ⊥

-- the call maps or unmaps pages
abbrev pub Sets : Request → Reply → Type 0
Sets (Munmap addr len) y = Unit {0}
Sets (Mmap addr len prot flags file off) (Mapped at) = Unit {0}
Sets request y = ⊥

-- this one among them
abbrev pub IsResetAt : ℕ → Request → Reply → Type 0
IsResetAt x (Munmap addr len) y = has (pages_of addr len) x ≡ true
IsResetAt x (Mmap addr len prot flags file off) (Mapped at) = has (pages_put flags.fixed addr len at) x ≡ true
IsResetAt x request y = ⊥
