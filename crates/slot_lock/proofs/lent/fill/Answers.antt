use Rattle.std.proofs.Common.{◌≡◌, arith}
use Rattle.slot_lock.specs.SlotList.{get_slot}
use Rattle.slot_lock.proofs.Places.{read_slot}
use Rattle.slot_lock.proofs.Adding.{filled-IsSlotList, slots_of-filled}
use Rattle.slot_lock.proofs.lent.fill.Goals as goal

pub returns-clause-list : goal.returns-clause-list
returns-clause-list g c =
    let slot : c.index.result.now ≡ get_slot c.args.slots.now.items c.args.i = read_slot c.args.slots.now.items c.args.i c.index.result.now
    (omega (arith, c.requires.inner.before_last)) c.index.ensures in
    rw slot (filled-IsSlotList _ c.requires.list c.args.i c.args.owner c.args.info.now c.requires.inner c.requires.sound)

pub returns-clause-slots : goal.returns-clause-slots
returns-clause-slots g c =
    let slot : c.index.result.now ≡ get_slot c.args.slots.now.items c.args.i = read_slot c.args.slots.now.items c.args.i c.index.result.now
    (omega (arith, c.requires.inner.before_last)) c.index.ensures in
    rw slot (slots_of-filled _ c.requires.list c.args.i c.args.owner c.args.info.now c.requires.inner c.requires.sound)
