-- What clauses see of open files: which there are, and which frames cache their pages
use Rattle.std.specs.Prelude.{ℕ, List, get_or, slice_get, Option, Some, None}
use Rattle.vm_base.specs.declared.rights.Mode.{Mode}
use Rattle.vm_base.specs.Plain.{Bytes, File, file_with}

-- an open file: for what, its own bytes, and of each of its pages the frame that caches it
pub record FileParts : Type 0 where
  pub mode : Mode
  pub bytes : List ℕ
  pub cached : List (Option ℕ)

-- the file that its parts make: no parts, no file
abbrev pub file_of : Option FileParts → Option File
file_of None = None
file_of (Some f) = Some (file_with f.mode f.bytes)

-- the files by their numbers
abbrev pub files_of : List FileParts → ℕ → Option File
files_of fs n = file_of (slice_get fs n)

-- of each page of a file, the frame that caches it
abbrev pub cached_pages : Option FileParts → ℕ → Option ℕ
cached_pages None k = None
cached_pages (Some f) k = get_or f.cached k None

-- of each file and each page of it, the frame that caches it
abbrev pub cached_in : List FileParts → ℕ → ℕ → Option ℕ
cached_in fs n = cached_pages (slice_get fs n)

-- The bytes of a file's page as they now are: those of the frame that caches it, which stores may
-- have changed, or else the file's own.
abbrev pub bytes_now : Option ℕ → (ℕ → Bytes) → Bytes → Bytes
bytes_now None frames own = own
bytes_now (Some g) frames own = frames g
