use Rattle.std.proofs.Common.{◌≡◌, ◌+◌, refl, arith}
use Rattle.slot_lock.specs.SlotList.{get_slot}
use Rattle.slot_lock.proofs.Places.{start_most, read_slot}
use Rattle.slot_lock.proofs.Cuts.{cut_list-IsSlotList, cut_list-Divides, cut_list-DividesAs}
use Rattle.slot_lock.proofs.slot.cut.Goals as goal

pub info_from-requires : goal.info_from-requires
info_from-requires g c =
    let slot : c.index-slot.result.now ≡ get_slot c.args.slots.now.items c.args.i = read_slot c.args.slots.now.items c.args.i
    c.index-slot.result.now (omega (arith, c.requires.inside.inner.before_last)) c.index-slot.ensures in
    let fits = c.requires.list.fits c.args.i c.requires.inside.inner.before_last in
    let most = start_most _ c.requires.list (c.args.i + 1) c.requires.inside.inner.before_last in
    rw slot (omega (arith, fits, most, c.requires.inside.below))

pub returns-clause-list : goal.returns-clause-list
returns-clause-list g c =
    let slot : c.index-slot.result.now ≡ get_slot c.args.slots.now.items c.args.i = read_slot c.args.slots.now.items c.args.i
    c.index-slot.result.now (omega (arith, c.requires.inside.inner.before_last)) c.index-slot.ensures in
    rw (c.in_ok-insert.ensures.items, c.info_from.ensures, slot) (cut_list-IsSlotList _ c.requires.list _ _ c.requires.inside)

pub returns-clause-ok : goal.returns-clause-ok
returns-clause-ok g c =
    let slot : c.index-slot.result.now ≡ get_slot c.args.slots.now.items c.args.i = read_slot c.args.slots.now.items c.args.i
    c.index-slot.result.now (omega (arith, c.requires.inside.inner.before_last)) c.index-slot.ensures in
    rw (c.in_ok-insert.ensures.items, c.info_from.ensures, slot) (cut_list-Divides _ c.requires.list _ _ c.requires.inside)

pub returns-clause-exact : goal.returns-clause-exact
returns-clause-exact g c =
    let slot : c.index-slot.result.now ≡ get_slot c.args.slots.now.items c.args.i = read_slot c.args.slots.now.items c.args.i
    c.index-slot.result.now (omega (arith, c.requires.inside.inner.before_last)) c.index-slot.ensures in
    rw (c.in_ok-insert.ensures.items, c.info_from.ensures, slot) (cut_list-DividesAs _ c.requires.list _ _ c.requires.inside)

pub returns-clause-items : goal.returns-clause-items
returns-clause-items g c =
    let slot : c.index-slot.result.now ≡ get_slot c.args.slots.now.items c.args.i = read_slot c.args.slots.now.items c.args.i
    c.index-slot.result.now (omega (arith, c.requires.inside.inner.before_last)) c.index-slot.ensures in
    rw (c.in_ok-insert.ensures.items, c.info_from.ensures, slot) refl
