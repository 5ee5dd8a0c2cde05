use Rattle.std.proofs.Common.{◌≡◌, arith}
use Rattle.slot_lock.specs.SlotList.{get_slot}
use Rattle.slot_lock.proofs.Places.{read_slot}
use Rattle.slot_lock.proofs.Changes.{informed-IsSlotList, slots_of-informed}
use Rattle.slot_lock.proofs.slot.set_info.Goals as goal

pub returns-clause-list : goal.returns-clause-list
returns-clause-list g c =
    let slot : c.index_mut.result.now ≡ get_slot c.args.slots.now.items c.args.i = read_slot c.args.slots.now.items c.args.i
    c.index_mut.result.now (omega (arith, c.requires.inner.before_last)) c.index_mut.ensures.value in
    rw slot (informed-IsSlotList _ c.requires.list _ c.args.info (record { inner = c.requires.inner; one = c.requires.one; meta = c.requires.meta }))

pub returns-clause-slots : goal.returns-clause-slots
returns-clause-slots g c =
    let slot : c.index_mut.result.now ≡ get_slot c.args.slots.now.items c.args.i = read_slot c.args.slots.now.items c.args.i
    c.index_mut.result.now (omega (arith, c.requires.inner.before_last)) c.index_mut.ensures.value in
    rw slot (slots_of-informed _ c.requires.list _ c.args.info (record { inner = c.requires.inner; one = c.requires.one; meta = c.requires.meta }))
