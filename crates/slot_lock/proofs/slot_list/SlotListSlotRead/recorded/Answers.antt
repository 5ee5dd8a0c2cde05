use Rattle.slot_lock.proofs.slot_list.SlotListSlotRead.recorded.Goals as goal

pub returns : goal.returns
returns g c = rw c.deref.ensures.value at c.recorded.ensures
