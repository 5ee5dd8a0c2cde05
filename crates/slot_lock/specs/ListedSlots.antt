-- What a list of slots says of each page
use Rattle.std.specs.Prelude.{ℕ, ◌-◌, ◌==◌, Bool, List}
use Rattle.vm_base.specs.declared.page.PageRange.{PageRange}
use Rattle.vm_base.specs.Info.{info_from}
use Rattle.slot_lock.specs.declared.slot.Slot.{Slot}
use Rattle.slot_lock.specs.SlotList.{slot_at}
use Rattle.slot_lock.specs.Slots.{Slots}

-- the slots that a list of slots stands for
abbrev pub slots_of : List Slot → Slots
slots_of rs = record {
  info = λ p. info_from (slot_at rs p).info (p - (slot_at rs p).start);
  owner = λ p. (slot_at rs p).owner;
  edge = λ p. (slot_at rs p).start == p;
}

-- a slot is divided in two, at the page that it crosses
abbrev pub two_parts : PageRange → ℕ → ℕ → Bool
two_parts slot at p = p == at
