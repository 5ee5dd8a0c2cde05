use Rattle.std.proofs.Common.{rules, ◌+◌}
use Rattle.slot_lock.proofs.Places.{read_slot, after_first, before_last}
use Rattle.slot_lock.proofs.SlotLaws.{held_page}
use Rattle.slot_lock.proofs.Steps.{unlocks, first_slot}
use Rattle.slot_lock.proofs.ListLaws.{list_laws}
use Rattle.slot_lock.proofs.slot_list.SlotListSlotMap.unlock_next.Goals as goal

pub index-requires : goal.index-requires
index-requires g c =
    let at = rw c.deref.ensures.value at c.place-i.ensures in
    let page = held_page _ c.args.self.now.laws c.args.cursor c.args.core c.requires.held in
    let last = before_last _ c.args.self.now.ok _ _ at page.1 in
    search rules

pub set_owner-requires-clause-inner : goal.set_owner-requires-clause-inner
set_owner-requires-clause-inner g c =
    let at = rw c.deref.ensures.value at c.place-i.ensures in
    let page = held_page _ c.args.self.now.laws c.args.cursor c.args.core c.requires.held in
    record { after_first = after_first _ c.args.self.now.ok _ _ at page.0; before_last = before_last _ c.args.self.now.ok _ _ at page.1 }

pub returns : goal.returns
returns g c =
    let at = rw c.deref.ensures.value at c.place-i.ensures in
    let page = held_page _ c.args.self.now.laws c.args.cursor c.args.core c.requires.held in
    let last = before_last _ c.args.self.now.ok _ _ at page.1 in
    let next = read_slot c.args.self.now.slots.items (c.place-i.result + 1) c.index.result.now last c.index.ensures in
    rw next (unlocks _ _ c.args.self.now.ok c.place-i.result c.args.core c.args.cursor c.args.end last
    (first_slot _ c.args.self.now.ok _ _ at c.requires.slot.1.begins) c.requires.slot c.requires.held c.set_owner.ensures.slots)

pub invariant_of-self : goal.invariant_of-self
invariant_of-self g c = record { ok = c.set_owner.ensures.list; laws = list_laws _ c.set_owner.ensures.list }
