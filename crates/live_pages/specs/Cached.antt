-- File pages, where they stand and what caches them
use Rattle.std.specs.Prelude.{◌≡◌, ℕ, List, slice_get, is_some, IfSome, Option, None, Some}
use Rattle.std.specs.Sync.Mutex.{mutex_guard_value}
use Rattle.std.specs.declared.sync.MutexGuard.{MutexGuard}
use Rattle.std.specs.declared.vec.Vec.{Vec}
use Rattle.vm_base.specs.declared.info.Back.{Back}
use Rattle.vm_base.specs.declared.info.Back.TheVariants.{Anon, Shared, Private}
use Rattle.machine_model.specs.Files.{back_of}
use Rattle.live_tree.specs.Held.{HeldView}
use Rattle.live_tree.specs.Shown.{shown}
use Rattle.live_pages.specs.Frames.{IsFilePage}
use Rattle.live_pages.specs.declared.pieces.FilePage.{FilePage}

-- the page of this number, among those of a file that is there
abbrev pub page_in : {M A : Type 0} → Option (Vec M A) → ℕ → Option M
page_in None page = None
page_in (Some pages) page = slice_get pages.items page

-- where the frame stands that caches the file page, among the pages of all files; nowhere for a page of
-- no file, and behind the end of one
abbrev pub place_in : {M A : Type 0} → List (Vec M A) → Back → Option M
place_in files Anon = None
place_in files (Shared file page) = page_in (slice_get files file) page
place_in files (Private file page) = page_in (slice_get files file) page

-- the frame that caches the file page that is locked
abbrev pub cached_in : Option (MutexGuard FilePage) → Option ℕ
cached_in None = None
cached_in (Some guard) = (mutex_guard_value guard).cached

-- this file page is what backs a page
abbrev pub IsPageOf : Back → FilePage → Type 0
IsPageOf back at = IsFilePage back at.file at.page

-- this file page backs the held page
abbrev pub BacksPage : HeldView → ℕ → FilePage → Type 0
BacksPage h page at = IsPageOf (back_of ((shown h.slots).info page)) at

-- the file page that backs a page is locked, where there is one among the pages of all files
abbrev pub LocksPageOf : {M A : Type 0} → List (Vec M A) → Back → Option (MutexGuard FilePage) → Type 0
LocksPageOf files back lock =
    (is_some lock ≡ is_some (place_in files back)) × IfSome lock (λ guard. IsPageOf back (mutex_guard_value guard))
