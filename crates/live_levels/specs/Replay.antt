-- What changes of a slot come to: its content is the replay of its history
use Rattle.std.specs.Prelude.{ℕ, List, ◌∷◌, fold, Option, Some, None}
use Rattle.vm_base.specs.declared.info.PageInfo.{PageInfo}
use Rattle.vm_base.specs.Info.{unused, info_with_core, info_with_copy, info_with_frame, info_with_prot}
use Rattle.live_levels.specs.declared.act.Act.{Act}
use Rattle.live_levels.specs.declared.act.Act.TheVariants.{Put, Clear, Protect, Frame, Copy, Record}
use Rattle.live_levels.specs.declared.act.SlotChange.{SlotChange}

-- what a slot's first page has after the act
abbrev pub after : Option PageInfo → Act → Option PageInfo
after info (Put meta) = Some (unused meta)
after info Clear = None
after info (Protect prot) = info_with_prot prot info
after info (Frame frame) = info_with_frame frame info
after info (Copy frame) = info_with_copy frame info
after info (Record core) = info_with_core core info

-- the changes applied in order to an empty slot
abbrev pub replay : List SlotChange → Option PageInfo
replay changes = fold (λ info change. after info change.act) None changes

-- a change with the ticket of its step
abbrev pub dated : ℕ → Act → SlotChange
dated ticket act = record { ticket = ticket; act = act }

-- the history, whose first change stands apart
abbrev pub history : Option SlotChange → List SlotChange → List SlotChange
history None later = later
history (Some begun) later = begun ∷ later
