-- What a slot that is no child says of its pages
use Rattle.std.specs.Prelude.{◌≡◌, ℕ, Bool, true, false, Option, Some, None}
use Rattle.vm_base.specs.declared.info.Back.{Back}
use Rattle.vm_base.specs.declared.info.Back.TheVariants.{Anon, Shared, Private}
use Rattle.vm_base.specs.declared.info.PageInfo.{PageInfo}
use Rattle.vm_base.specs.Info.{info_from, is_leaf}
use Rattle.radix_node.specs.declared.state.BackKind.{BackKind}
use Rattle.radix_node.specs.declared.state.BackKind.TheVariants.{Unmapped, Zeros, OfFile, Copies}
use Rattle.radix_node.specs.declared.state.SlotState.{SlotState}

-- what the first page has, and the core that holds the slot
pub record State : Type 0 where
  pub info : Option PageInfo
  pub owner : Option ℕ

-- what backs a page, by its kind, a file and a page of the file
abbrev pub backing_of : BackKind → ℕ → ℕ → Option Back
backing_of Unmapped file page = None
backing_of Zeros file page = Some Anon
backing_of OfFile file page = Some (Shared file page)
backing_of Copies file page = Some (Private file page)

abbrev pub frame_in : Bool → ℕ → Option ℕ
frame_in false frame = None
frame_in true frame = Some frame

-- what a page with this backing has, if it is mapped
abbrev pub info_in : Option Back → SlotState → Option PageInfo
info_in None s = None
info_in (Some back) s =
    Some (record {
      meta = record { back = back; prot = s.prot };
      frame = frame_in s.has_frame s.frame;
      cores = s.cores;
    })

abbrev pub state_of : SlotState → State
state_of s = record { info = info_in (backing_of s.kind s.file s.file_page) s; owner = s.owner }

abbrev pub no_state : State
no_state = record { info = None; owner = None }

-- the part of a slot that begins so many pages on
abbrev pub state_from : State → ℕ → State
state_from s n = record { info = info_from s.info n; owner = s.owner }

-- nobody holds the slot, and its pages have no frame and no recorded core
pub record IsPlain (s : State) : Type 0 where
  pub free : s.owner ≡ None
  pub no_leaf : is_leaf s.info ≡ false
