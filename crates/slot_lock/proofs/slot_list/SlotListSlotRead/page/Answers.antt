use Rattle.slot_lock.proofs.Words.{◌-◌, arith, ap, ◌∙◌, info_from}
use Rattle.slot_lock.specs.declared.slot.Slot.{Slot}
use Rattle.slot_lock.proofs.Places.{read_slot, before_last}
use Rattle.slot_lock.proofs.Steps.{read_at}
use Rattle.slot_lock.proofs.slot_list.SlotListSlotRead.page.Goals as goal

pub place-requires : goal.place-requires
place-requires g c = rw c.deref.ensures.value c.args.self.now.ok

pub index-slot-requires : goal.index-slot-requires
index-slot-requires g c = let at = rw c.deref.ensures.value at c.place.ensures in omega (arith, at.within)

pub overflow_sub-page : goal.overflow_sub-page
overflow_sub-page g c =
    let at = rw c.deref.ensures.value at c.place.ensures in
    rw (read_slot c.args.self.now.slots.items c.place.result c.index-slot.result.now at.within c.index-slot.ensures) (omega (arith, at.from))

pub info_from-requires : goal.info_from-requires
info_from-requires g c =
    let at = rw c.deref.ensures.value at c.place.ensures in
    let last = before_last _ c.args.self.now.ok _ _ at c.requires.1 in
    let fits = c.args.self.now.ok.fits c.place.result last in
    let until = at.until last in
    rw (read_slot c.args.self.now.slots.items c.place.result c.index-slot.result.now at.within c.index-slot.ensures) (omega (arith, fits, until))

pub returns : goal.returns
returns g c =
    let at = rw c.deref.ensures.value at c.place.ensures in
    c.info_from.ensures ∙ ap (λ (r : Slot). info_from r.info (c.args.page - r.start))
    (read_at c.args.self.now.slots.items c.args.self.now.ok c.args.page c.place.result c.index-slot.result.now at c.index-slot.ensures)
