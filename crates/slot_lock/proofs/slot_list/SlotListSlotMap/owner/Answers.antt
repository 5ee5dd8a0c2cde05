use Rattle.std.proofs.Common.{ap}
use Rattle.slot_lock.specs.declared.slot.Slot.{Slot}
use Rattle.slot_lock.proofs.Steps.{read_at}
use Rattle.slot_lock.proofs.slot_list.SlotListSlotMap.owner.Goals as goal

pub returns : goal.returns
returns g c =
    let at = rw c.deref.ensures.value at c.place.ensures in
    ap (λ (r : Slot). r.owner) (read_at c.args.self.now.slots.items c.args.self.now.ok c.args.page c.place.result c.index.result.now at c.index.ensures)
