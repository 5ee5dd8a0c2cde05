use Rattle.slot_lock.proofs.Words.{◌+◌, arith, in_has}
use Rattle.slot_lock.proofs.Places.{read_slot, before_last}
use Rattle.slot_lock.proofs.ListLaws.{is_slot}
use Rattle.slot_lock.proofs.slot_list.SlotListSlotRead.slot.Goals as goal

pub place-i-requires : goal.place-i-requires
place-i-requires g c = rw c.deref.ensures.value c.args.self.now.ok

pub index-requires : goal.index-requires
index-requires g c = let at = rw c.deref.ensures.value at c.place-i.ensures in omega (arith, at.within)

pub index-requires-2 : goal.index-requires-2
index-requires-2 g c = omega (arith, before_last _ c.args.self.now.ok _ _ (rw c.deref.ensures.value at c.place-i.ensures) c.requires.1)

pub returns-clause-has : goal.returns-clause-has
returns-clause-has g c =
    let at = rw c.deref.ensures.value at c.place-i.ensures in
    let last = before_last _ c.args.self.now.ok _ _ at c.requires.1 in
    let first = read_slot c.args.self.now.slots.items c.place-i.result c.index.result.now at.within c.index.ensures in
    let next = read_slot c.args.self.now.slots.items (c.place-i.result + 1) c.index-2.result.now last c.index-2.ensures in
    rw (first, next) (in_has _ c.args.page at.from (at.until last))

pub returns-clause-slot : goal.returns-clause-slot
returns-clause-slot g c =
    let at = rw c.deref.ensures.value at c.place-i.ensures in
    let last = before_last _ c.args.self.now.ok _ _ at c.requires.1 in
    let first = read_slot c.args.self.now.slots.items c.place-i.result c.index.result.now at.within c.index.ensures in
    let next = read_slot c.args.self.now.slots.items (c.place-i.result + 1) c.index-2.result.now last c.index-2.ensures in
    rw (first, next) (is_slot _ c.args.self.now.ok _ last)
