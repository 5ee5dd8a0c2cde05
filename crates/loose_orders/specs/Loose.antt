-- The plain page map, and what changes have replaced: until they are over, accesses may go by it
use Rattle.std.specs.Prelude.{◌≡◌, ℕ, Bool, false, if◌then◌else◌, List, slice_get, Option, None, Some}
use Rattle.vm_base.specs.declared.replies.Reply.{Reply}
use Rattle.vm_base.specs.declared.replies.Reply.TheVariants.{Mapped, Done}
use Rattle.vm_base.specs.declared.requests.Request.{Request}
use Rattle.vm_base.specs.declared.requests.Request.TheVariants.{Mmap, Munmap, Mprotect, Load, Store, Fetch}
use Rattle.vm_base.specs.Functions.{has, put}
use Rattle.vm_base.specs.Log.{RepliesBy}
use Rattle.vm_base.specs.Pages.{page_of, pages_of}
use Rattle.vm_base.specs.Places.{PlaceRule}
use Rattle.vm_base.specs.Plain.{PageEntry, Plain}
use Rattle.audit.specs.declared.auditor.Call.{Call}
use Rattle.orders.specs.declared.history.Timed.{Timed}
use Rattle.orders.specs.Orders.{CopiesFor}

-- ---- what calls have replaced

-- The plain page map, and beside it what this call has replaced on this page: an entry, or none where nothing was mapped.
pub record Loose : Type 0 where
  pub plain : Plain
  pub old : ℕ → ℕ → Option (Option PageEntry)

-- no call has replaced anything
abbrev pub begun : Plain → Loose
begun t = record { plain = t; old = λ call page. None }

-- the pages whose entries a call replaces that is answered so
abbrev pub replaces : Request → Reply → ℕ → Bool
replaces (Mmap addr len prot flags file off) (Mapped at) page = has (pages_of at len) page
replaces (Munmap addr len) Done page = has (pages_of addr len) page
replaces (Mprotect addr len prot) Done page = has (pages_of addr len) page
replaces request reply page = false

-- what it replaces
abbrev pub replaced : Plain → Call → ℕ → Option (Option PageEntry)
replaced t c page = if replaces c.request c.reply page then Some (t.entry page) else None

-- ---- accesses

-- the page that a request accesses
abbrev pub page_accessed : Request → Option ℕ
page_accessed (Load addr) = Some (page_of addr)
page_accessed (Store addr byte) = Some (page_of addr)
page_accessed (Fetch addr) = Some (page_of addr)
page_accessed request = None

-- the map with this entry at a page
abbrev pub with_entry : Plain → ℕ → Option PageEntry → Plain
with_entry t page entry = record t { entry = put t.entry page entry }

-- ---- what goes by the map as it is

-- The call takes effect with the reply of the map, and replaces entries.
abbrev pub TakesEffect : PlaceRule → List Timed → Loose → ℕ → Loose → Type 0
TakesEffect rule h s i u = (c : Timed) × (slice_get h i ≡ Some c)
    × RepliesBy rule s.plain c.call.core c.call.request c.call.reply u.plain × (u.old ≡ put s.old i (replaced s.plain c.call))

-- The page of the call is copied.
abbrev pub GetsCopy : List Timed → Loose → ℕ → Loose → Type 0
GetsCopy h s i u = (c : Timed) × (slice_get h i ≡ Some c) × CopiesFor s.plain c.call.request u.plain × (u.old ≡ s.old)
