-- What one place of a page shows
use Rattle.std.specs.Prelude.{ℕ, ◌-◌, ◌==◌, if◌then◌else◌, Option, None, Some}
use Rattle.vm_base.specs.declared.info.Back.{Back}
use Rattle.vm_base.specs.declared.info.Back.TheVariants.{Private}
use Rattle.vm_base.specs.declared.info.Meta.{Meta}
use Rattle.vm_base.specs.declared.rights.Prot.{Prot}
use Rattle.vm_base.specs.Apply.{first_own}
use Rattle.vm_base.specs.Functions.{has}
use Rattle.vm_base.specs.Info.{advance}
use Rattle.vm_base.specs.Plain.{Bytes, PageEntry, File, bytes_of}
use Rattle.slot_lock.specs.declared.plan.Change.{Change}
use Rattle.slot_lock.specs.declared.plan.Change.TheVariants.{Put, Clear, Protect}
use Rattle.litmus_merges.specs.declared.change.MapChange.{MapChange}
use Rattle.litmus_merges.specs.declared.change.MapChange.TheVariants as StepOf
use Rattle.litmus_merges.specs.declared.seen.Seen.{Seen}

-- a byte, if there are any
abbrev pub byte_at : Option Bytes → ℕ → Option ℕ
byte_at None i = None
byte_at (Some bytes) i = Some (bytes i)

-- what a page shows at a place
abbrev pub shown : ℕ → Option PageEntry → Option Seen
shown i None = None
shown i (Some e) = Some (record { back = e.back; prot = e.prot; own = byte_at e.own i })

-- a fresh page of a mapping
abbrev pub fresh : Meta → Seen
fresh meta = record { back = meta.back; prot = meta.prot; own = byte_at (first_own meta.back) 0 }

-- the same under another protection
abbrev pub seen_protected : Prot → Option Seen → Option Seen
seen_protected prot None = None
seen_protected prot (Some seen) = Some (record seen { prot = prot })

-- another own byte, if there is one
abbrev pub byte_with : Option ℕ → ℕ → Option ℕ
byte_with None byte = None
byte_with (Some old) byte = Some byte

abbrev pub seen_with : ℕ → Option Seen → Option Seen
seen_with byte None = None
seen_with byte (Some seen) = Some (record seen { own = byte_with seen.own byte })

-- what a place of a page shows after a change
abbrev pub seen_change : Change → ℕ → Option Seen → Option Seen
seen_change (Put range meta) page seen =
    if has range page then Some (fresh (advance meta (page - range.first))) else seen
seen_change (Clear range) page seen = if has range page then None else seen
seen_change (Protect range prot) page seen = if has range page then seen_protected prot seen else seen

-- a private page without own bytes gets this one
abbrev pub own_copied : Back → Option ℕ → Option ℕ → Option ℕ
own_copied (Private file page) None byte = byte
own_copied back own byte = own

abbrev pub seen_copied : Option Seen → Option ℕ → Option Seen
seen_copied None byte = None
seen_copied (Some seen) byte = Some (record seen { own = own_copied seen.back seen.own byte })

-- a byte of a file's page after a step
abbrev pub stored_byte : MapChange → ℕ → ℕ → ℕ → ℕ → ℕ
stored_byte (StepOf.File file page offset stored) n p i byte =
    if n == file then (if p == page then (if i == offset then stored else byte) else byte) else byte
stored_byte _ n p i byte = byte

-- the byte that a place of a page shows, if there is one
abbrev pub shown_byte : (ℕ → Option File) → Option PageEntry → ℕ → Option ℕ
shown_byte files None i = None
shown_byte files (Some e) i = byte_at (bytes_of files e.back e.own) i
