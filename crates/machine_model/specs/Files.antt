-- The frames that cache the pages of files, and what a page shows of its file
use Rattle.std.specs.Prelude.{ℕ, ◌&&◌, Bool, true, false, if◌then◌else◌, Option, None, Some}
use Rattle.vm_base.specs.declared.info.Back.{Back}
use Rattle.vm_base.specs.declared.info.Back.TheVariants.{Anon, Shared, Private}
use Rattle.vm_base.specs.declared.info.PageInfo.{PageInfo}
use Rattle.vm_base.specs.declared.rights.Prot.{Prot}
use Rattle.vm_base.specs.Functions.{put}
use Rattle.vm_base.specs.Plain.{Bytes, File, zeros, bytes_in}
use Rattle.vm_calls.specs.Settling.{is_cached}
use Rattle.machine_model.specs.World.{Memory}

-- what backs the page; of a page that isn't mapped nothing is asked
abbrev pub back_of : Option PageInfo → Back
back_of None = Anon
back_of (Some info) = info.meta.back

-- the frame that caches the page's file page
abbrev pub file_frame : (ℕ → ℕ → Option ℕ) → Back → Option ℕ
file_frame cached Anon = None
file_frame cached (Shared n k) = cached n k
file_frame cached (Private n k) = cached n k

-- a page with this frame shows its file's page, and not own bytes
abbrev pub shows_file : (ℕ → ℕ → Option ℕ) → Back → ℕ → Bool
shows_file cached back f = is_cached (file_frame cached back) f

-- the page's frame, if it has one, shows its file's page
abbrev pub shows_some : (ℕ → ℕ → Option ℕ) → Back → Option ℕ → Bool
shows_some cached back None = false
shows_some cached back (Some f) = shows_file cached back f

-- the frame caches the page's file page from here on
abbrev pub with_cached : (ℕ → ℕ → Option ℕ) → Back → ℕ → ℕ → ℕ → Option ℕ
with_cached cached Anon f = cached
with_cached cached (Shared n k) f = put cached n (put (cached n) k (Some f))
with_cached cached (Private n k) f = put cached n (put (cached n) k (Some f))

-- the bytes of a page of the file as they now are
abbrev pub page_now : Memory → Option File → ℕ → ℕ → Bytes
page_now m None n k = zeros
page_now m (Some file) n k = bytes_in m.bytes (file.bytes k) (m.cached n k)

-- the bytes that a page has without own ones: zeros of no file, and else those of its file page as
-- they now are
abbrev pub bytes_shown : (ℕ → Option File) → Memory → Back → Bytes
bytes_shown file m Anon = zeros
bytes_shown file m (Shared n k) = page_now m (file n) n k
bytes_shown file m (Private n k) = page_now m (file n) n k

-- ---- what translations of a page allow

-- a page of a file of which each page may have a copy
abbrev pub is_private : Back → Bool
is_private (Private n k) = true
is_private _ = false

-- Through a private page that shows its file's page nothing is stored, so that the file never sees
-- a store (POSIX.1-2017, mmap, MAP_PRIVATE): it may be read, and fetched where that is allowed.
abbrev pub prot_shown : Bool → Prot → Prot
prot_shown shown prot =
    if shown then record { read = true; write = false; exec = prot.exec } else prot

-- the protection that the page's entries have
abbrev pub prot_installed : (ℕ → ℕ → Option ℕ) → PageInfo → Prot
prot_installed cached info =
    prot_shown (is_private info.meta.back && shows_some cached info.meta.back info.frame)
    info.meta.prot
