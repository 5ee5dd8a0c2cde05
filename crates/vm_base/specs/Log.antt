-- Legal logs: applied in order, each entry says what a plain page map answers (POSIX.1-2017, mmap,
-- munmap and mprotect). A mapping without MAP_FIXED is at its hint, if that is free, or anywhere in
-- its core's window where there is room; where there is none it is refused.
use Rattle.std.specs.Prelude.{◌≡◌, ℕ, zero, suc, true, List, [], ◌∷◌, slice_get, Option, None, Some, is_some}
use Rattle.vm_base.specs.declared.replies.Reply.{Reply}
use Rattle.vm_base.specs.declared.replies.Reply.TheVariants.{NoFrame, NoMemory}
use Rattle.vm_base.specs.declared.requests.Request.{Request}
use Rattle.vm_base.specs.declared.requests.Request.TheVariants.{Load as LoadOf, Store as StoreOf}
use Rattle.vm_base.specs.declared.requests.Request.TheVariants.{Fetch as FetchOf}
use Rattle.vm_base.specs.declared.rights.Access.{Access}
use Rattle.vm_base.specs.declared.rights.Access.TheVariants.{Load, Store, Fetch}
use Rattle.vm_base.specs.Pages.{page_of}
use Rattle.vm_base.specs.Rights.{is_allowed}
use Rattle.vm_base.specs.Plain.{File, PageEntry, Plain, bytes_of}
use Rattle.vm_base.specs.Apply.{Applies, detached}
use Rattle.vm_base.specs.Copies.{page_copied, with_copy}
use Rattle.vm_base.specs.Places.{PlaceRule, IsPlace}
use Rattle.vm_base.specs.declared.log.Entry.{Entry}
use Rattle.vm_base.specs.declared.log.Entry.TheVariants.{Answer, Detach}

-- ---- accesses that would be served

-- the page is mapped, its protection allows the access, and it has bytes
abbrev pub CanAccess : (ℕ → Option File) → Option PageEntry → Access → Type 0
CanAccess files None access = ⊥
CanAccess files (Some e) access =
    (is_allowed e.prot access ≡ true) × (is_some (bytes_of files e.back e.own) ≡ true)

-- the request is an access of such a page
abbrev pub IsServable : Plain → Request → Type 0
IsServable t (LoadOf addr) = CanAccess t.file (t.entry (page_of addr)) Load
IsServable t (StoreOf addr byte) = CanAccess t.file (t.entry (page_of addr)) Store
IsServable t (FetchOf addr) = CanAccess t.file (t.entry (page_of addr)) Fetch
IsServable t _ = ⊥

-- ---- entries

-- A core's request may be answered y, and leaves u, where places go by the rule. NoFrame answers only
-- an access that would be served, and NoMemory any request; both change nothing. Every other reply,
-- and what it leaves, is the plain page map's.
abbrev pub Stands : PlaceRule → Plain → ℕ → Request → Reply → Plain → Type 0
Stands rule t core request NoFrame u = IsServable t request × (u ≡ t)
Stands rule t core request NoMemory u = u ≡ t
Stands rule t core request y u = Applies rule t core request y u

-- The same after the copy that is due before it, if one is
abbrev pub RepliesBy : PlaceRule → Plain → ℕ → Request → Reply → Plain → Type 0
RepliesBy rule t core request y u = Stands rule (with_copy t (page_copied t request y)) core request y u

-- the n-th of a list, from 1
abbrev pub nth : {A : Type 0} → List A → ℕ → Option A
nth xs zero = None
nth xs (suc n) = slice_get xs n

-- The entry, where these are the requests of the calls in order. A page gets a copy of its own
-- where it is a private page that shows its file's bytes, and a store to it is allowed.
abbrev pub EntryLeads : List Request → Plain → Entry → Plain → Type 0
EntryLeads requests t (Answer step call core reply) u =
    (request : Request) × (nth requests call ≡ Some request) × Stands IsPlace t core request reply u
EntryLeads requests t (Detach step call page) u =
    CanAccess t.file (t.entry page) Store × (detached t page ≡ Some u)

-- the entries, applied in order, lead from t to u
abbrev pub Replays : List Request → Plain → List Entry → Plain → Type 0
Replays requests t [] u = u ≡ t
Replays requests t (e ∷ es) u = (m : Plain) × EntryLeads requests t e m × Replays requests m es u

-- There is no second map that a log leads to.
abbrev pub EachLogLeadsToOneMap : Type 0
EachLogLeadsToOneMap =
    (requests : List Request) (log : List Entry) (t u v : Plain)
    → Replays requests t log u → Replays requests t log v → u ≡ v
