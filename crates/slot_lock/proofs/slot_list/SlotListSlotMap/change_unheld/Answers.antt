use Rattle.slot_lock.proofs.ListLaws.{list_laws}
use Rattle.slot_lock.proofs.slot_list.SlotListSlotMap.change_unheld.Goals as goal

pub invariant_of-self : goal.invariant_of-self
invariant_of-self g c = record { ok = c.change.ensures.list; laws = list_laws _ c.change.ensures.list }
