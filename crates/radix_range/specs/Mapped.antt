-- Pages that are known to be mapped
use Rattle.vm_base.specs.declared.page.PageRange.{PageRange}
use Rattle.slot_lock.specs.Slots.{Slots, AllMapped}

pub record IsMappedRun (s : Slots) (full : PageRange) : Type 0 where
  pub mapped : AllMapped s full
