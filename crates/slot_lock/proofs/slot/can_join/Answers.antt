use Rattle.std.proofs.Common.{◌≡◌, ◌+◌, ◌<◌, length, arith}
use Rattle.slot_lock.specs.SlotList.{get_slot}
use Rattle.slot_lock.proofs.Places.{read_slot, start_most}
use Rattle.slot_lock.proofs.slot.can_join.Goals as goal

pub joins-requires-clause-fits : goal.joins-requires-clause-fits
joins-requires-clause-fits c =
    let more : c.args.i + 1 < length c.args.slots.now = omega arith in
    let slot : c.index-slots-i.result ≡ get_slot c.args.slots.now c.args.i = read_slot _ _ _ c.requires.within c.index-slots-i.is in
    let next : c.index-slots-i-2.result ≡ get_slot c.args.slots.now (c.args.i + 1) = read_slot _ _ _ more c.index-slots-i-2.is in
    let fits = c.requires.list.fits c.args.i more in
    let low = start_most _ c.requires.list c.args.i c.requires.within in
    let high = start_most _ c.requires.list (c.args.i + 1) more in
    rw (slot, next) (omega arith)

pub joins-requires-clause-later : goal.joins-requires-clause-later
joins-requires-clause-later c =
    let more : c.args.i + 1 < length c.args.slots.now = omega arith in
    let slot : c.index-slots-i.result ≡ get_slot c.args.slots.now c.args.i = read_slot _ _ _ c.requires.within c.index-slots-i.is in
    let next : c.index-slots-i-2.result ≡ get_slot c.args.slots.now (c.args.i + 1) = read_slot _ _ _ more c.index-slots-i-2.is in
    let rise = c.requires.list.rising c.args.i more in
    rw (slot, next) (omega arith)
