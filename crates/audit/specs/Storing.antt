-- What a store does to frames, and to the plain page map that is kept
use Rattle.std.specs.Prelude.{◌≡◌, ℕ, true, false, Bool, List, None, Some, IfSome, is_some}
use Rattle.vm_base.specs.declared.info.Back.{Back}
use Rattle.vm_base.specs.declared.info.Back.TheVariants.{Shared}
use Rattle.vm_base.specs.declared.info.PageInfo.{PageInfo}
use Rattle.vm_base.specs.Functions.{put}
use Rattle.vm_base.specs.Plain.{Plain, bytes_of, file_bytes}
use Rattle.vm_base.specs.Apply.{first_own}
use Rattle.slot_lock.specs.Slots.{Slots}
use Rattle.frames.specs.Parts.{FrameParts, frame_bytes}
use Rattle.frames.specs.Files.{FileParts, files_of, cached_in}
use Rattle.audit.specs.Keeping.{Keeps, TakesFrame, files_kept, own_kept, plain_kept}

-- a shared page of a file
abbrev pub is_shared_back : Back → Bool
is_shared_back (Shared file page) = true
is_shared_back _ = false

-- the page has bytes: of its own, or those of its file's page
abbrev pub HasBytes : List FileParts → FrameParts → PageInfo → Type 0
HasBytes objects frames info = is_some (bytes_of (files_kept objects frames) info.meta.back
    (own_kept (frame_bytes frames) info.meta.back info.frame)) ≡ true

-- the frame has the bytes of the file's page: it had them, or it was taken for them
pub data CachesPage (o n : List FileParts) (old new : FrameParts) (file page f : ℕ) : Type 0 where
  had : cached_in o file page ≡ Some f → n ≡ o → new ≡ old → CachesPage o n old new file page f
  took : cached_in o file page ≡ None
      → IfSome (file_bytes (files_kept o old file) page) (TakesFrame old new f)
      → cached_in n ≡ put (cached_in o) file (put (cached_in o file) page (Some f))
      → files_of n ≡ files_of o → CachesPage o n old new file page f

-- the frame has the page's own bytes: it had them, or it was taken for them
pub data GetsFrame (s t : Slots) (objects : List FileParts) (old new : FrameParts) (page : ℕ)
    (info : PageInfo) (f : ℕ) : Type 0 where
  had : info.frame ≡ Some f → t.info ≡ s.info → new ≡ old
      → GetsFrame s t objects old new page info f
  took : info.frame ≡ None
      → IfSome (bytes_of (files_kept objects old) info.meta.back (first_own info.meta.back))
      (TakesFrame old new f)
      → t.info ≡ put s.info page (Some (record info { frame = Some f }))
      → GetsFrame s t objects old new page info f

-- the plain map that is kept is u
pub record IsStored (s : Slots) (objects : List FileParts) (frames : FrameParts) (u : Plain) : Type 0
  where
    pub plain : plain_kept s objects frames ≡ u
    pub kept : Keeps s (cached_in objects) frames
