use Rattle.std.proofs.Common.{◌≡◌, ◌<◌, ◌≤◌, ◌∙◌, length, arith}
use Rattle.slot_lock.specs.Plan.{range_of}
use Rattle.slot_lock.specs.SlotList.{get_slot}
use Rattle.slot_lock.proofs.Places.{read_slot}
use Rattle.slot_lock.proofs.Changes.{changing_first, changing_next, slots_of-changed}
use Rattle.slot_lock.proofs.slot.change.Goals as goal

pub slots-init : goal.slots-init
slots-init g c = changing_first _ c.requires.list c.args.change c.requires.sound c.requires.cut _
    (rw (c.deref.ensures.value, c.range-range.ensures) at c.place-i.ensures)

pub slots-preserved : goal.slots-preserved
slots-preserved g c =
    let so_far = c.slots.invariant in
    let within : c.slots.i < length c.slots.slots.items = omega (arith, so_far.lengths, so_far.within) in
    let was = so_far.rest c.slots.i (omega arith) in
    let tested : c.index.result.now ≡ get_slot c.args.slots.now.items c.slots.i = read_slot c.slots.slots.items c.slots.i c.index.result.now
    within c.index.ensures ∙ was in
    let slot : c.index-in-slots.result.now ≡ get_slot c.args.slots.now.items c.slots.i = read_slot c.slots.slots.items c.slots.i
    c.index-in-slots.result.now within c.index-in-slots.ensures ∙ was in
    let below : (get_slot c.args.slots.now.items c.slots.i).start < (range_of c.args.change).end = rw (tested, c.range-range.ensures) at c.slots-test.true in
    rw (c.changed.ensures, slot) (changing_next _ _ c.requires.list c.args.change c.requires.sound c.requires.cut _ so_far below)

pub returns-clause-list : goal.returns-clause-list
returns-clause-list g c = c.slots.invariant.list

pub returns-clause-slots : goal.returns-clause-slots
returns-clause-slots g c =
    let so_far = c.slots.invariant in
    let within : c.slots.i < length c.slots.slots.items = omega (arith, so_far.lengths, so_far.within) in
    let tested : c.index.result.now ≡ get_slot c.args.slots.now.items c.slots.i = read_slot c.slots.slots.items c.slots.i c.index.result.now
    within c.index.ensures ∙ so_far.rest c.slots.i (omega arith) in
    let past : (range_of c.args.change).end ≤ (get_slot c.args.slots.now.items c.slots.i).start = rw (tested, c.range-range.ensures) at c.slots-test.false in
    slots_of-changed _ _ c.args.change c.slots.i so_far past
