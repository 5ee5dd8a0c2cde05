-- When a private page gets a copy of its own, and what that leaves
use Rattle.std.specs.Prelude.{◌≡◌, ℕ, ◌&&◌, Bool, false, Option, None, Some, is_some}
use Rattle.vm_base.specs.declared.rights.Access.TheVariants.{Store}
use Rattle.vm_base.specs.Rights.{is_allowed}
use Rattle.vm_base.specs.Plain.{PageEntry, File, Plain, bytes_of}
use Rattle.vm_base.specs.Apply.{detached, is_uncopied}
use Rattle.vm_base.specs.Log.{CanAccess}

-- The page gets a copy of its own, as in a log: it is a private page that shows its file's bytes, a store to it is
-- allowed, and it has the bytes from here on.
abbrev pub Copies : Plain → ℕ → Plain → Type 0
Copies t page u = CanAccess t.file (t.entry page) Store × (detached t page ≡ Some u)

-- the same as a test of what the page has
abbrev pub is_copy_due : (ℕ → Option File) → Option PageEntry → Bool
is_copy_due files None = false
is_copy_due files (Some e) = is_allowed e.prot Store && is_uncopied e.back e.own && is_some (bytes_of files e.back e.own)
