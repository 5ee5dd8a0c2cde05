-- What a change does to the pages of its range, and which pages it can change
use Rattle.slot_lock.specs.declared.plan.Change.{Change}
use Rattle.slot_lock.specs.declared.plan.Change.TheVariants.{Put, Clear, Protect}
use Rattle.slot_lock.specs.Slots.{Slots, AllMapped, mapped, cleared, protected}

-- the slots after a change
abbrev pub changed : Slots → Change → Slots
changed s (Put range meta) = mapped s range meta
changed s (Clear range) = cleared s range
changed s (Protect range prot) = protected s range prot

-- only mapped pages get another protection
abbrev pub IsMappedFor : Slots → Change → Type 0
IsMappedFor s (Put range meta) = Unit {0}
IsMappedFor s (Clear range) = Unit {0}
IsMappedFor s (Protect range prot) = AllMapped s range
