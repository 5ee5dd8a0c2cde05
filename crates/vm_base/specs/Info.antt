-- What backs a page and those after it. The pages of a mapping of a file have the pages of the file
-- in order (POSIX.1-2017, mmap).
use Rattle.std.specs.Prelude.{ℕ, ◌+◌, ◌==◌, ◌||◌, not, Bool, false, Option, None, Some, is_some}
use Rattle.vm_base.specs.declared.info.Back.{Back}
use Rattle.vm_base.specs.declared.info.Back.TheVariants.{Anon, Shared, Private}
use Rattle.vm_base.specs.declared.info.Meta.{Meta}
use Rattle.vm_base.specs.declared.info.PageInfo.{PageInfo}
use Rattle.vm_base.specs.declared.rights.Prot.{Prot}
use Rattle.vm_base.specs.Cores.{members, with_member}

-- the backing so many pages on
abbrev pub advance_back : Back → ℕ → Back
advance_back Anon n = Anon
advance_back (Shared file page) n = Shared file (page + n)
advance_back (Private file page) n = Private file (page + n)

-- the mapping so many pages on
abbrev pub advance : Meta → ℕ → Meta
advance m n = record { back = advance_back m.back n; prot = m.prot }

-- the file page, or 0 where there is none
abbrev pub file_page : Back → ℕ
file_page Anon = 0
file_page (Shared file page) = page
file_page (Private file page) = page

-- a page of a mapping that no core has used
abbrev pub unused : Meta → PageInfo
unused meta = record { meta = meta; frame = None; cores = 0 }

-- what the page has that lies so many pages on in the same slot
abbrev pub info_from : Option PageInfo → ℕ → Option PageInfo
info_from None n = None
info_from (Some info) n = Some (record info { meta = advance info.meta n })

-- the file page of what a page has, or 0 where there is none
abbrev pub info_file_page : Option PageInfo → ℕ
info_file_page None = 0
info_file_page (Some info) = file_page info.meta.back

-- the frame of the page, if it has one
abbrev pub frame_of : Option PageInfo → Option ℕ
frame_of None = None
frame_of (Some info) = info.frame

-- the cores that are recorded on the page
abbrev pub recorded_cores : Option PageInfo → ℕ
recorded_cores None = 0
recorded_cores (Some info) = info.cores

-- the core may have a translation of the page
abbrev pub is_recorded : Option PageInfo → ℕ → Bool
is_recorded None core = false
is_recorded (Some info) core = members info.cores core

-- the page has a frame or a recorded core, and so is a slot of its own
abbrev pub is_leaf : Option PageInfo → Bool
is_leaf None = false
is_leaf (Some info) = is_some info.frame || not (info.cores == 0)

-- the page with another protection, under which no core has used it
abbrev pub info_with_prot : Prot → Option PageInfo → Option PageInfo
info_with_prot prot None = None
info_with_prot prot (Some info) =
    Some (record info { meta = record info.meta { prot = prot }; cores = 0 })

-- the page with a frame
abbrev pub info_with_frame : ℕ → Option PageInfo → Option PageInfo
info_with_frame frame None = None
info_with_frame frame (Some info) = Some (record info { frame = Some frame })

-- the page without its frame
abbrev pub info_without_frame : Option PageInfo → Option PageInfo
info_without_frame None = None
info_without_frame (Some info) = Some (record info { frame = None })

-- the page with one recorded core more
abbrev pub info_with_core : ℕ → Option PageInfo → Option PageInfo
info_with_core core None = None
info_with_core core (Some info) = Some (record info { cores = with_member info.cores core })

-- the page with a copy of its bytes in a frame of its own, of which no core has a translation yet
abbrev pub info_with_copy : ℕ → Option PageInfo → Option PageInfo
info_with_copy frame None = None
info_with_copy frame (Some info) = Some (record info { frame = Some frame; cores = 0 })
