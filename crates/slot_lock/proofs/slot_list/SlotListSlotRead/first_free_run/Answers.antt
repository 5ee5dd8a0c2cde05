use Rattle.slot_lock.proofs.slot_list.SlotListSlotRead.first_free_run.Goals as goal

pub returns-clause-least : goal.returns-clause-least
returns-clause-least g c = rw c.deref.ensures.value at c.first_free_run.ensures.least

pub returns-clause-none : goal.returns-clause-none
returns-clause-none g c = rw c.deref.ensures.value at c.first_free_run.ensures.none
