-- Whether an access would be served, as a test
use Rattle.std.specs.Prelude.{ℕ, ◌&&◌, Bool, false, Option, None, Some, is_some}
use Rattle.vm_base.specs.declared.rights.Access.{Access}
use Rattle.vm_base.specs.declared.rights.Access.TheVariants.{Load, Store, Fetch}
use Rattle.vm_base.specs.declared.requests.Request.{Request}
use Rattle.vm_base.specs.declared.requests.Request.TheVariants.{Load as LoadOf, Store as StoreOf, Fetch as FetchOf}
use Rattle.vm_base.specs.Pages.{page_of}
use Rattle.vm_base.specs.Rights.{is_allowed}
use Rattle.vm_base.specs.Plain.{PageEntry, File, Plain, bytes_of}

-- the page is mapped, its protection allows the access, and it has bytes
abbrev pub can_access : (ℕ → Option File) → Option PageEntry → Access → Bool
can_access files None access = false
can_access files (Some e) access = is_allowed e.prot access && is_some (bytes_of files e.back e.own)

-- the request is an access of such a page
abbrev pub is_served : Plain → Request → Bool
is_served t (LoadOf addr) = can_access t.file (t.entry (page_of addr)) Load
is_served t (StoreOf addr byte) = can_access t.file (t.entry (page_of addr)) Store
is_served t (FetchOf addr) = can_access t.file (t.entry (page_of addr)) Fetch
is_served t request = false
