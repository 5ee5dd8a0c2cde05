use Rattle.slot_lock.proofs.Words.{◌∙◌, ◌||◌, ap, members, is_recorded, get_or_default}
use Rattle.slot_lock.specs.declared.slot.Slot.{Slot}
use Rattle.slot_lock.specs.SlotList.{empty_slot}
use Rattle.slot_lock.proofs.Walks.{walk_more, users_next}
use Rattle.slot_lock.proofs.walk.recorded.Goals as goal

pub slots-preserved : goal.slots-preserved
slots-preserved c =
    let walk = c.slots.invariant.walk in
    let here = get_or_default c.args.slots.now c.slots.i c.index-slots-i.result empty_slot walk.within in
    let here_too = get_or_default c.args.slots.now c.slots.i c.index-slots-i-in-slots.result empty_slot walk.within in
    let below = rw here at c.slots-test.true in
    let more = walk_more _ c.requires.list _ _ _ walk below c.requires.range.high in
    users_next _ c.requires.list c.args.range _ _ _ c.requires.range.some c.slots.invariant more below
    (λ core. ap (λ f. f core) c.union-cores.ensures ∙ (ap (λ b. members c.slots.cores core || b) (c.recorded_cores.ensures.recorded core)
    ∙ ap (λ (r : Slot). members c.slots.cores core || is_recorded r.info core) here_too))
